-- Links and evidence that must not be (dag/dag_round.rs): of ill-formed and missing points, and into rounds below 0.
use Prim.Native.Nat.{ℕ, zero, suc, ◌≤◌, ◌<◌}
use Rattle.std.specs.Prelude.{◌≡◌, Bool, true, false, ◌&&◌, ◌||◌, cond, List, ltb}
use Rattle.std.proofs.Math.Path.{refl, ap}
use Rattle.std.proofs.Common.{sym, ◌∙◌, ap₂, arith}
use Rattle.std.proofs.Math.Logic.{⊎_elim}
use Rattle.std.proofs.Math.Dec.{eqb}
use borrow.Author.Tests.{eq-eqb, ne_eqb, eqb-true, ltb-true, lt-ltb, le-ltb}
use Rattle.laws.specs.Test.{or_l, or_r, or_cases}
use Rattle.laws.specs.Scan.{every, every_elim}
use Rattle.models.specs.Live.{reach}
use Rattle.models.specs.DagPoint.{case_of, has_info}
use Rattle.models.specs.declared.dag_point.DagPoint.{DagPoint}
use Rattle.models.specs.Tables.{status_at, target_at, evidence_at}
use Rattle.std.specs.Prelude.{None, Option, Some}

unfoldable pub empty_at : List ℕ → ℕ → ℕ → ℕ → Bool
empty_at ls q m k = ltb k m || eqb (target_at ls q k) 0

-- no link from m on
unfoldable pub empty_from : List ℕ → ℕ → ℕ → Bool
empty_from ls q m = every 64 (empty_at ls q m)

-- no link that must not be, by the case of the point: one that is named only may hold anything
unfoldable pub bare_of : Option DagPoint → List ℕ → List ℕ → ℕ → Bool
bare_of None ks ls q = true
bare_of (Some p) ks ls q = cond (has_info p) (empty_from ls q (reach 0 ks q)) (eqb (evidence_at ls q) 0 && empty_from ls q 0)

-- the place q
unfoldable pub bare_at : List ℕ → List ℕ → ℕ → Bool
bare_at ks ls q = bare_of (case_of (status_at ks q)) ks ls q

-- ---- the code's steps

module _ (ls : List ℕ) (q m : ℕ) where
  pub empty_below : (k : ℕ) → k < m → empty_at ls q m k ≡ true
  unfolding empty_at
  empty_below k l = or_l (ltb k m) _ (lt-ltb k m l)

  pub empty_more : (k : ℕ) → target_at ls q k ≡ 0 → empty_at ls q m k ≡ true
  unfolding empty_at
  empty_more k e = or_r (ltb k m) _ (eq-eqb (target_at ls q k) 0 e)

  pub empty_fails : (k : ℕ) → m ≤ k → (target_at ls q k ≡ 0 → ⊥) → empty_at ls q m k ≡ false
  unfolding empty_at
  empty_fails k l e = rw (le-ltb k m l) (ne_eqb (target_at ls q k) 0 e)

  -- a link that is there is one below m
  pub empty_elim : empty_from ls q m ≡ true → (k : ℕ) → k < 64 → 0 < target_at ls q k → k < m
  unfolding empty_from empty_at
  empty_elim h k l a =
      ⊎_elim (λ t. ltb-true k m t) (λ t. absurd (omega (arith, eqb-true (target_at ls q k) 0 t))) (or_cases (ltb k m) _ (every_elim 64 _ h k l))

module _ (ks ls : List ℕ) (q : ℕ) (r : Option DagPoint) (is : r ≡ case_of (status_at ks q)) where
  pub bare_named : r ≡ None → true ≡ bare_at ks ls q
  unfolding bare_at bare_of
  bare_named e = ap (λ (x : Option DagPoint). bare_of x ks ls q) (sym e ∙ is)

  -- a point with links, and one without
  pub bare_full : (p : DagPoint) (i b : Bool) (m : ℕ) → r ≡ Some p → i ≡ has_info p → i ≡ true → m ≡ reach 0 ks q → b ≡ empty_from ls q m → b ≡ bare_at ks ls q
  unfolding bare_at bare_of
  bare_full p i b m e f t g h = h ∙ (ap (empty_from ls q) g ∙ (rw (sym f ∙ t) refl ∙ ap (λ (x : Option DagPoint). bare_of x ks ls q) (sym e ∙ is)))

  pub bare_none : (p : DagPoint) (i b a : Bool) (x : ℕ) → r ≡ Some p → i ≡ has_info p → i ≡ false → x ≡ evidence_at ls q → b ≡ empty_from ls q 0 → a ≡ (eqb x 0 && b) → a ≡ bare_at ks ls q
  unfolding bare_at bare_of
  bare_none p i b a x e f t y g h = h ∙ (ap₂ (λ (u : ℕ) (v : Bool). eqb u 0 && v) y g ∙ (rw (sym f ∙ t) refl ∙ ap (λ (x : Option DagPoint). bare_of x ks ls q) (sym e ∙ is)))

-- ---- by the status

module _ (ks ls : List ℕ) (q : ℕ) where
  pub by_none : (n : ℕ) → n ≡ 0 → bare_of (case_of n) ks ls q ≡ true
  unfolding case_of bare_of
  by_none n e = rw e refl

  pub by_full : (n : ℕ) → 0 < n → n ≤ 3 → bare_of (case_of n) ks ls q ≡ empty_from ls q (reach 0 ks q)
  unfolding case_of bare_of has_info
  by_full zero a b = absurd (omega arith)
  by_full (suc zero) a b = refl
  by_full (suc (suc zero)) a b = refl
  by_full (suc (suc (suc zero))) a b = refl
  by_full (suc (suc (suc (suc n)))) a b = absurd (omega arith)

  pub by_bare : (n : ℕ) → 4 ≤ n → n ≤ 5 → bare_of (case_of n) ks ls q ≡ (eqb (evidence_at ls q) 0 && empty_from ls q 0)
  unfolding case_of bare_of has_info
  by_bare zero a b = absurd (omega arith)
  by_bare (suc zero) a b = absurd (omega arith)
  by_bare (suc (suc zero)) a b = absurd (omega arith)
  by_bare (suc (suc (suc zero))) a b = absurd (omega arith)
  by_bare (suc (suc (suc (suc zero)))) a b = refl
  by_bare (suc (suc (suc (suc (suc zero))))) a b = refl
  by_bare (suc (suc (suc (suc (suc (suc n)))))) a b = absurd (omega arith)
