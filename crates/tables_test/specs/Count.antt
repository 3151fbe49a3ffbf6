-- As many positions of the order as places: a place stands at one position.
use Prim.Native.Nat.{ℕ, zero, suc, ◌≤◌, ◌<◌}
use Rattle.std.specs.Prelude.{◌≡◌, refl, Bool, ◌&&◌, ◌≢◌, length}
use Rattle.std.proofs.Common.{sym, ◌∙◌, ap}
use Rattle.std.proofs.Math.Bool.{true, false}
use native.Mathlib.Omega.{arith}
use Rattle.std.proofs.Math.Dec.{eqb}
use borrow.Author.Tests.{eqb-true, eq-eqb}
use Rattle.laws.specs.Test.{by_test, clash, both, and_l, and_r, same_or, same_test}
use Rattle.laws.specs.Scan.{any, any_intro, any_elim, those, those_fewer, those-one, those-same, those-yes, those_no}

-- one that passes, and the others
without : (P : ℕ) (f g : ℕ → Bool) (q : ℕ) → q < P → f q ≡ true → g q ≡ false → ((p : ℕ) → p < P → p ≢ q → f p ≡ g p) → length (those P f) ≡ suc (length (those P g))
without zero f g q l a b h = absurd (omega arith)
without (suc P) f g q l a b h =
    same_or P q
    (λ e. those-yes P f (rw e a) ∙ ap suc (ap length (those-same P f g (λ p k. h p (omega arith) (λ d. omega arith))) ∙ sym (those_no P g (rw e b))))
    (λ d. let r = without P f g q (omega arith) a b (λ p k. h p (omega arith)) in
    by_test (f P)
    (λ t. those-yes P f t ∙ (ap suc r ∙ ap suc (sym (those-yes P g (sym (h P (omega arith) d) ∙ t)))))
    (λ t. those_no P f t ∙ (r ∙ ap suc (sym (those_no P g (sym (h P (omega arith) d) ∙ t))))))

-- none passes
none : (P : ℕ) (g : ℕ → Bool) → ((p : ℕ) → p < P → g p ≡ true → ⊥) → length (those P g) ≤ 0
unfolding those
none zero g h = omega arith
none (suc P) g h = by_test (g P) (λ t. absurd (h P (omega arith) t)) (λ f. let r = none P g (λ p l. h p (omega arith)) in omega (arith, those_no P g f))

module _ (P : ℕ) (at : ℕ → ℕ) (f : ℕ → Bool) where
  -- passes, and stands at one of the first m positions
  unfoldable among : ℕ → ℕ → Bool
  among m p = f p && any m (λ i. eqb (at i) p)

  among_elim : (m p : ℕ) → among m p ≡ true → (f p ≡ true) × ((i : ℕ) × (i < m) × (at i ≡ p))
  unfolding among
  among_elim m p h = (and_l (f p) _ h, let (i, l, e) = any_elim m (λ i. eqb (at i) p) (and_r (f p) _ h) in (i, l, eqb-true _ _ e))

  among_intro : (m p i : ℕ) → f p ≡ true → i < m → at i ≡ p → among m p ≡ true
  unfolding among
  among_intro m p i a l e = both a (any_intro m (λ i. eqb (at i) p) i l (eq-eqb _ _ e))

  among_more : (m p : ℕ) → among m p ≡ true → among (suc m) p ≡ true
  among_more m p h = let (a, (i, l, e)) = among_elim m p h in among_intro (suc m) p i a (omega arith) e

  among_less : (m p : ℕ) → (p ≡ at m → ⊥) → among (suc m) p ≡ true → among m p ≡ true
  among_less m p d h = let (a, (i, l, e)) = among_elim (suc m) p h in among_intro m p i a (same_or i m (λ x. absurd (d (sym e ∙ ap at x))) (λ x. omega arith)) e

  -- no more places than positions
  fewer : (m : ℕ) → length (those P (among m)) ≤ length (those m (λ i. f (at i)))
  fewer zero = let r = none P (among 0) (λ p l h. let (a, (i, k, e)) = among_elim 0 p h in omega arith) in omega arith
  fewer (suc m) =
      let r = fewer m in
      by_test (f (at m))
      (λ t. omega (arith, those-yes m (λ i. f (at i)) t, those-one P (among m) (among (suc m)) (at m) (λ p l d h. among_less m p d h)))
      (λ t. omega (arith, those_no m (λ i. f (at i)) t, those_fewer P (among m) (among (suc m)) (λ p l h. among_less m p (λ e. clash (among_elim (suc m) p h).0 (ap f e ∙ t)) h)))

  pub places_fewer : (n : ℕ) → ((p : ℕ) → p < P → f p ≡ true → (i : ℕ) × (i < n) × (at i ≡ p)) → length (those P f) ≤ length (those n (λ i. f (at i)))
  places_fewer n h =
      let r = fewer n in
      omega (arith, those_fewer P (among n) f (λ p l a. let (i, k, e) = h p l a in among_intro n p i a k e))

  -- no more positions than places, if no place stands twice
  more : (n : ℕ) → ((i j : ℕ) → i < n → j < n → at i ≡ at j → i ≡ j) → ((i : ℕ) → i < n → at i < P) → (m : ℕ) → m ≤ n → length (those m (λ i. f (at i))) ≤ length (those P (among m))
  unfolding those
  more n one inside zero l = omega arith
  more n one inside (suc m) l =
      let r = more n one inside m (omega arith) in
      by_test (f (at m))
      (λ t. omega (
        arith,
        those-yes m (λ i. f (at i)) t,
        without P (among (suc m)) (among m) (at m) (inside m (omega arith)) (among_intro (suc m) (at m) m t (omega arith) refl)
            (not_among t) (λ p k d. same_test _ _ (among_less m p d) (among_more m p)),
      ))
      (λ t. omega (arith, those_no m (λ i. f (at i)) t, those_fewer P (among (suc m)) (among m) (λ p k h. among_more m p h)))
    where
      not_among : f (at m) ≡ true → among m (at m) ≡ false
      not_among t = by_test (among m (at m)) (λ h. let (a, (i, k, e)) = among_elim m (at m) h in let x = one i m (omega arith) (omega arith) e in absurd (omega arith)) (λ h. h)

  pub positions_fewer : (n : ℕ) → ((i j : ℕ) → i < n → j < n → at i ≡ at j → i ≡ j) → ((i : ℕ) → i < n → at i < P) → length (those n (λ i. f (at i))) ≤ length (those P f)
  positions_fewer n one inside = omega (arith, more n one inside n (omega arith), those_fewer P f (among n) (λ p l h. (among_elim n p h).0))
