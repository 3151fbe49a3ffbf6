-- Histories rise by round, inside a round by digest (01: back.rs, 'Forms of the Rust').
use Rattle.std.specs.Prelude.{ℕ, ◌≤◌, ◌<◌, ◌≡◌, refl, ◌⊎◌, true, false, Bool, eqb, ltb, length}
use Rattle.std.proofs.Common.{sym, ◌∙◌, subst, arith}
use Rattle.std.proofs.Math.Logic.{inl, inr, ⊎_elim}
use mathlib.Core.List.Memᴰ
use mathlib.Core.List.{List, [], ◌∷◌, Memᴰ}
use Rattle.std.proofs.lemmas.List.{length-map}
use borrow.Author.Tests.{eqb-true, eq-eqb, leb-true, le-leb, ltb-true, lt-ltb}
use Rattle.laws.specs.Test.{clash, both, and_l, and_r, or_l, or_r, or_cases, le_or, same_or}
use Rattle.laws.specs.Scan.{those, those_most}
use Rattle.laws.specs.Lists.{NoDup, Pairs}
use Rattle.laws.specs.Sort.{sort_length}
use Rattle.spec.specs.Ids.{Id, by_round, rises, falls}
use Rattle.spec.specs.Store.{Store, id_at}
use Rattle.spec.specs.Rules.{places_ok}
use Rattle.spec.specs.History.{Need, anchor, hand, needed, in_history, history}
use Rattle.spec.specs.Links.{linked}
use Rattle.spec.specs.WellFormed.{Wf}

-- x comes before y: in a lower round, or in the same with a smaller digest
abbrev pub Before : Id → Id → Type 0
Before x y = (x.round < y.round) ⊎ ((x.round ≡ y.round) × (x.digest < y.digest))

-- the order of rounds: transitive, and of two rounds that differ one comes first
module _ (less : ℕ → ℕ → Bool) (chain : (a b c : ℕ) → less a b ≡ true → less b c ≡ true → less a c ≡ true) (total : (a b : ℕ) → (a ≡ b) ⊎ ((less a b ≡ true) ⊎ (less b a ≡ true))) where
  abbrev First : Id → Id → Type 0
  First x y = (less x.round y.round ≡ true) ⊎ ((x.round ≡ y.round) × (x.digest ≤ y.digest))

  by_elim : (x y : Id) → by_round less x y ≡ true → First x y
  unfolding by_round
  by_elim x y h = ⊎_elim (λ t. inl t) (λ t. inr (eqb-true _ _ (and_l _ _ t), leb-true _ _ (and_r (eqb x.round y.round) _ t))) (or_cases _ _ h)

  by_intro : (x y : Id) → First x y → by_round less x y ≡ true
  unfolding by_round
  by_intro x y (inl l) = or_l _ _ l
  by_intro x y (inr (e, l)) = or_r (less x.round y.round) _ (both (eq-eqb _ _ e) (le-leb _ _ l))

  by_total : (x y : Id) → by_round less x y ≡ false → by_round less y x ≡ true
  by_total x y f =
      ⊎_elim
      (λ e. le_or y.digest x.digest (λ m. by_intro y x (inr (sym e, m))) (λ m. absurd (clash (by_intro x y (inr (e, omega arith))) f)))
      (λ d. ⊎_elim (λ l. absurd (clash (by_intro x y (inl l)) f)) (λ l. by_intro y x (inl l)) d)
      (total x.round y.round)

  by_trans : (x y z : Id) → by_round less x y ≡ true → by_round less y z ≡ true → by_round less x z ≡ true
  by_trans x y z h k = by_intro x z (go (by_elim x y h) (by_elim y z k))
    where
      go : First x y → First y z → First x z
      go (inl a) (inl b) = inl (chain _ _ _ a b)
      go (inl a) (inr (e, b)) = inl (subst (λ n. less x.round n ≡ true) e a)
      go (inr (e, a)) (inl b) = inl (subst (λ n. less n z.round ≡ true) (sym e) b)
      go (inr (e, a)) (inr (f, b)) = inr (e ∙ f, omega arith)

less-chain : (a b c : ℕ) → ltb a b ≡ true → ltb b c ≡ true → ltb a c ≡ true
less-chain a b c h k = lt-ltb a c (omega (arith, ltb-true a b h, ltb-true b c k))

less-total : (a b : ℕ) → (a ≡ b) ⊎ ((ltb a b ≡ true) ⊎ (ltb b a ≡ true))
less-total a b = same_or a b inl (λ n. le_or a b (λ l. inr (inl (lt-ltb a b (omega arith)))) (λ l. inr (inr (lt-ltb b a l))))

more-total : (a b : ℕ) → (a ≡ b) ⊎ ((ltb b a ≡ true) ⊎ (ltb a b ≡ true))
more-total a b = ⊎_elim inl (λ d. ⊎_elim (λ l. inr (inr l)) (λ l. inr (inl l)) d) (less-total a b)

pub rises_elim : (x y : Id) → rises x y ≡ true → (x.round < y.round) ⊎ ((x.round ≡ y.round) × (x.digest ≤ y.digest))
unfolding rises
rises_elim x y h = ⊎_elim (λ l. inl (ltb-true _ _ l)) inr (by_elim ltb less-chain less-total x y h)

pub rises-total : (x y : Id) → rises x y ≡ false → rises y x ≡ true
unfolding rises
rises-total = by_total ltb less-chain less-total

pub rises_trans : (x y z : Id) → rises x y ≡ true → rises y z ≡ true → rises x z ≡ true
unfolding rises
rises_trans = by_trans ltb less-chain less-total

pub falls_elim : (x y : Id) → falls x y ≡ true → (y.round < x.round) ⊎ ((x.round ≡ y.round) × (x.digest ≤ y.digest))
unfolding falls
falls_elim x y h = ⊎_elim (λ l. inl (ltb-true _ _ l)) inr (by_elim (λ m n. ltb n m) (λ a b c h k. less-chain c b a k h) more-total x y h)

pub falls-total : (x y : Id) → falls x y ≡ false → falls y x ≡ true
unfolding falls
falls-total = by_total (λ m n. ltb n m) (λ a b c h k. less-chain c b a k h) more-total

pub falls_trans : (x y z : Id) → falls x y ≡ true → falls y z ≡ true → falls x z ≡ true
unfolding falls
falls_trans = by_trans (λ m n. ltb n m) (λ a b c h k. less-chain c b a k h) more-total

-- pairs in a list without repeats
pub strict : {A : Type 0} (R S : A → A → Type 0) (l : List A) → Pairs R l → NoDup l → ((x y : A) → Memᴰ x l → Memᴰ y l → R x y → (x ≡ y → ⊥) → S x y) → Pairs S l
strict R S [] p n f = tt
strict R S (x ∷ xs) p n f = (
  (λ y m. f x y (Memᴰ.head refl) (Memᴰ.tail m) (p.0 y m) (λ e. n.0 (Memᴰ.cast e m))),
  strict R S xs p.1 n.1 (λ y z a b. f y z (Memᴰ.tail a) (Memᴰ.tail b)),
)

-- a needed point is named
pub need_named : (s : Store) (a q : ℕ) → (s.pt a).named ≡ true → Need s a q → (s.pt q).named ≡ true
need_named s a q h anchor = h
need_named s a q h (hand p x n d e) = (linked _ _ e).named_is

-- a point of the history is needed
pub history-needed : (s : Store) (a q : ℕ) → in_history s a q ≡ true → needed s a q ≡ true
unfolding in_history
history-needed s a q h = and_l _ _ h

-- it has no more points than there are places
pub history-few : (s : Store) → Wf s → (a : ℕ) → length (history s a) ≤ 4096
unfolding history places_ok
history-few s w a =
    let e : length (history s a) ≡ length (those s.places (in_history s a)) = sort_length rises _ ∙ length-map (those s.places (in_history s a)) (id_at s) in
    omega (arith, e, those_most s.places (in_history s a), leb-true s.places 4096 (and_r (ltb 0 s.places) _ w.places_ok))
