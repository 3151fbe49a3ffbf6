-- The first point that isn't usable is the one that document 01 finds first (01: 'Refusals' 13 to 15).
use Rattle.std.specs.Prelude.{ℕ, ◌<◌, ◌≤◌, ◌≡◌, refl, ◌⊎◌, eqb}
use Rattle.std.proofs.Math.Path.{sym, ap}
use Rattle.std.proofs.Common.{◌∙◌, inl, inr, eqb-true, leb-true, ltb-true}
use mathlib.Core.List.Memᴰ
use mathlib.Core.List.{List, [], ◌∷◌, Memᴰ}
use Rattle.std.proofs.Math.Bool.{true}
use Rattle.std.proofs.Math.Logic.{⊎_elim}
use Rattle.std.proofs.Math.Dec.{ltb}
use Rattle.laws.specs.Test.{and_l, and_r, or_cases}
use Rattle.laws.specs.Lists.{Pairs}
use Rattle.spec.specs.Ids.{Id, by_round, falls}
use Rattle.spec.specs.Store.{Store}
use Rattle.spec.specs.Chain.{Out, good, then, checked, is_committable}
use Rattle.spec.specs.History as history
use Rattle.spec.specs.History.{needed, faults}

-- ---- one point

-- ---- the points in the order of the tests

-- all are usable
pub all-good : (v : Store) (l : List ℕ) → ((q : ℕ) → Memᴰ q l → checked v is_committable q ≡ good q) → history.first_fault v l ≡ good 0
unfolding history.first_fault
all-good v [] h = refl
all-good v (x ∷ xs) h = rw (h x (Memᴰ.head refl)) (all-good v xs (λ q m. h q (Memᴰ.tail m)))

-- p is refused, and no point that is refused comes before it
pub first-bad : (v : Store) (R : ℕ → ℕ → Type 0) (p : ℕ) (o : Out ℕ) (l : List ℕ) → Pairs R l → Memᴰ p l → checked v is_committable p ≡ o → ((f : ℕ → Out ℕ) → then o f ≡ o)
    → ((q : ℕ) → Memᴰ q l → (checked v is_committable q ≡ good q) ⊎ ((q ≡ p) ⊎ (R q p → ⊥))) → history.first_fault v l ≡ o
unfolding history.first_fault
first-bad v R p o [] a m e s h = absurd (Memᴰ.not-nil m)
first-bad v R p o (x ∷ xs) a m e s h = go (h x (Memᴰ.head refl)) (Memᴰ.cases_cons m) (λ k. first-bad v R p o xs a.1 k e s (λ q n. h q (Memᴰ.tail n)))
  where
    here : x ≡ p → history.first_fault v (x ∷ xs) ≡ o
    here d = rw (ap (checked v is_committable) d ∙ e) (s (λ y. history.first_fault v xs))

    go : (checked v is_committable x ≡ good x) ⊎ ((x ≡ p) ⊎ (R x p → ⊥)) → (p ≡ x) ⊎ Memᴰ p xs → (Memᴰ p xs → history.first_fault v xs ≡ o) → history.first_fault v (x ∷ xs) ≡ o
    go g (inl d) r = here (sym d)
    go (inl g) (inr k) r = rw g (r k)
    go (inr (inl d)) (inr k) r = here d
    go (inr (inr n)) (inr k) r = absurd (n (a.0 p k))

-- a later round, or the same and a digest that is no greater
pub falls_elim : (x y : Id) → falls x y ≡ true → (y.round < x.round) ⊎ ((x.round ≡ y.round) × (x.digest ≤ y.digest))
unfolding falls by_round
falls_elim x y h =
    ⊎_elim (λ l. inl (ltb-true _ _ l)) (λ e. inr (eqb-true _ _ (and_l _ _ e), leb-true _ _ (and_r (eqb x.round y.round) _ e)))
    (or_cases (ltb y.round x.round) _ h)
