-- The height function gives the heights by paths, and the local equations have it as their one solution.
use Rattle.std.specs.Prelude.{ℕ, zero, suc, ◌≤◌, ◌<◌, ◌≡◌, refl, ◌⊎◌, Bool, true, false, eqb}
use Rattle.std.proofs.Common.{◌∙◌, subst, inl, inr, ⊎_elim, eqb-true, eq-eqb, arith}
use Rattle.std.proofs.lemmas.Bool.{false≢true}
use Rattle.laws.specs.Test.{by_test, clash, le_or-lt, and_l}
use Rattle.laws.specs.Scan.{any_intro, any_elim, best_bound, best_met}
use Rattle.spec.specs.Store.{Store, links_to, round_at}
use Rattle.spec.specs.Paths.{Path, here, step, LinkedTo, is_top, Top, height_from, IsHeight, reach, height_via, height}
use Rattle.spec.specs.Links.{linked, down}

-- 01, 'Forms': a store has points at its places only
abbrev pub Sized : Store → Type 0
Sized s = (q : ℕ) → s.places ≤ q → (s.pt q).named ≡ false

pub inside : (s : Store) → Sized s → (q : ℕ) → (s.pt q).named ≡ true → q < s.places
inside s z q h = ⊎_elim (λ k. absurd (clash h (z q k))) (λ k. k) (le_or-lt s.places q)

-- a step of `reach`, by cases
via : (s : Store) (k p q x : ℕ) → Bool
via s k p q x = elim (links_to (s.pt p) (s.pt x)) [ true ↦ reach s k x q | false ↦ false ]

via_elim : (s : Store) (k p q x : ℕ) → via s k p q x ≡ true → (LinkedTo s p x) × (reach s k x q ≡ true)
unfolding via
via_elim s k p q x h = by_test (links_to (s.pt p) (s.pt x)) (λ t. (t, rw (t, via) at h)) (λ f. absurd (false≢true (rw (f, via) at h)))

pub reach_path : (s : Store) (k p q : ℕ) → reach s k p q ≡ true → Path (LinkedTo s) p q
unfolding reach via
reach_path s zero p q h = subst (Path (LinkedTo s) p) (eqb-true p q h) here
reach_path s (suc k) p q h =
    by_test (eqb p q)
    (λ t. subst (Path (LinkedTo s) p) (eqb-true p q t) here)
    (λ f. let (x, l, t) = any_elim s.places (via s k p q) (rw (f, reach) at h) in
    let (e, r) = via_elim s k p q x t in step {q = x} e (reach_path s k x q r))

pub path_reach : (s : Store) → Sized s → (k p q : ℕ) → Path (LinkedTo s) p q → round_at s p ≤ k → reach s k p q ≡ true
unfolding reach via
path_reach s z zero p q here l = eq-eqb p p refl
path_reach s z zero p q (step {q = x} e w) l = absurd (omega (arith, down s p x e))
path_reach s z (suc k) p q here l = rw (eq-eqb p p refl, reach) refl
path_reach s z (suc k) p q (step {q = x} e w) l =
    let r : reach s k x q ≡ true = path_reach s z k x q w (omega (arith, down s p x e)) in
    by_test (eqb p q)
    (λ t. rw (t, reach) refl)
    (λ f. rw (f, reach) (any_intro s.places (via s k p q) x (inside s z x (linked _ _ e).named_is) (rw (e, r, via) refl)))

-- the height function is the height of 01
pub height_is : (s : Store) → Sized s → (p : ℕ) → IsHeight (LinkedTo s) (round_at s) (Top s) s.conf.history_rounds p (height s p)
unfolding height height_via
height_is s z p = record {
  bound = λ t to w. subst (λ n. n ≤ height s p) (given t to w) (best_bound s.places (height_via s p) t (inside s z t (and_l _ (s.pt t).flags.top to)));
  met = ⊎_elim inl (λ (t, l, h). from t h) (best_met s.places (height_via s p));
}
  where
    given : (t : ℕ) → Top s t → Path (LinkedTo s) t p → height_via s p t ≡ height_from s.conf.history_rounds (round_at s) t p
    given t to w = rw (to, path_reach s z (round_at s t) t p w (omega arith), height_via) refl

    from : (t : ℕ) → height s p ≡ height_via s p t → (height s p ≡ 0) ⊎ ((t : ℕ) × Top s t × Path (LinkedTo s) t p × (height s p ≡ height_from s.conf.history_rounds (round_at s) t p))
    from t h =
        by_test (is_top s t)
        (λ to. by_test (reach s (round_at s t) t p)
        (λ r. inr (t, to, reach_path s (round_at s t) t p r, h ∙ rw (to, r, height_via) refl))
        (λ f. inl (h ∙ rw (to, f, height_via) refl)))
        (λ f. inl (h ∙ rw (f, height_via) refl))
