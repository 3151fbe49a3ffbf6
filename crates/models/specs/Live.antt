-- Which links of a place are live: those of a resolved point into rounds from the bottom up.
use Prim.Native.Nat.{ℕ, zero, suc, ◌+◌, ◌≤◌, ◌<◌}
use Rattle.std.specs.Prelude.{◌≡◌, ◌↔◌, List, cond, ltb}
use Rattle.std.proofs.Math.Path.{refl, sym, ap, subst}
use Rattle.std.proofs.Common.{◌∙◌}
use native.Mathlib.Omega.{arith}
use borrow.Author.Tests.{lt-ltb, le-ltb}
use Rattle.laws.specs.Test.{le_or}
use Rattle.models.specs.Tables.{round_at, status_at, dist}
use Rattle.models.specs.DagPoint.{case_of}
use Rattle.models.specs.declared.dag_point.DagPoint.{DagPoint}
use Rattle.std.specs.Prelude.{None, Option, Some}

-- how many links of a point of round r lead into rounds from b up: none, includes only, or all
unfoldable pub span : ℕ → ℕ → ℕ
span b r = cond (ltb r (b + 1)) 0 (cond (ltb r (b + 2)) 32 64)

-- the same by the case of the point: none, unless it is resolved
unfoldable pub reach_of : Option DagPoint → ℕ → ℕ → ℕ
reach_of None b r = 0
reach_of (Some p) b r = span b r

-- and for a place
unfoldable pub reach : ℕ → List ℕ → ℕ → ℕ
reach b ks q = reach_of (case_of (status_at ks q)) b (round_at ks q)

-- the cases of span
module _ (b r : ℕ) where
  pub span_none : r < b + 1 → span b r ≡ 0
  unfolding span
  span_none l = rw (lt-ltb r (b + 1) l) refl

  pub span-includes : b + 1 ≤ r → r < b + 2 → span b r ≡ 32
  unfolding span
  span-includes l m = rw (le-ltb r (b + 1) l, lt-ltb r (b + 2) m) refl

  pub span-all : b + 1 ≤ r → b + 2 ≤ r → span b r ≡ 64
  unfolding span
  span-all l m = rw (le-ltb r (b + 1) l, le-ltb r (b + 2) m) refl

  -- link k leads into a round from b up
  span_live : (k : ℕ) → (k < span b r) ↔ ((k < 64) × (b + dist k ≤ r))
  span_live k =
      le_or (b + 1) r
      (λ l. le_or (b + 2) r
      (λ m. let e : span b r ≡ 64 = span-all l m in ((λ i. (omega arith, omega arith)), λ i. omega arith))
      (λ m. let e : span b r ≡ 32 = span-includes l m in ((λ i. (omega arith, omega arith)), λ i. omega arith)))
      (λ l. let e : span b r ≡ 0 = span_none l in ((λ i. absurd (omega arith)), λ i. absurd (omega arith)))

  -- a status that 01 has, of a resolved point
  reach_case : (n : ℕ) → 0 < n → n ≤ 5 → reach_of (case_of n) b r ≡ span b r
  unfolding reach_of case_of
  reach_case zero l m = absurd (omega arith)
  reach_case (suc zero) l m = refl
  reach_case (suc (suc zero)) l m = refl
  reach_case (suc (suc (suc zero))) l m = refl
  reach_case (suc (suc (suc (suc zero)))) l m = refl
  reach_case (suc (suc (suc (suc (suc zero))))) l m = refl
  reach_case (suc (suc (suc (suc (suc (suc n)))))) l m = absurd (omega arith)

  -- no other has links
  case_reach : (n k : ℕ) → k < reach_of (case_of n) b r → (0 < n) × (n ≤ 5)
  unfolding reach_of case_of
  case_reach zero k l = absurd (omega arith)
  case_reach (suc zero) k l = (omega arith, omega arith)
  case_reach (suc (suc zero)) k l = (omega arith, omega arith)
  case_reach (suc (suc (suc zero))) k l = (omega arith, omega arith)
  case_reach (suc (suc (suc (suc zero)))) k l = (omega arith, omega arith)
  case_reach (suc (suc (suc (suc (suc zero))))) k l = (omega arith, omega arith)
  case_reach (suc (suc (suc (suc (suc (suc n)))))) k l = absurd (omega arith)

module _ (b : ℕ) (ks : List ℕ) (q : ℕ) where
  pub reach-unresolved : status_at ks q ≡ 0 → reach b ks q ≡ 0
  unfolding reach reach_of case_of
  reach-unresolved s = rw s refl

  -- link k is live: q is resolved, and the link leads into a round from b up
  abbrev pub Live : ℕ → Type 0
  Live k = (0 < status_at ks q) × (k < 64) × (b + dist k ≤ round_at ks q) × (status_at ks q ≤ 5)

  pub reach_live : (k : ℕ) → (k < reach b ks q) ↔ Live k
  unfolding reach
  reach_live k = (
    (λ l. let (x, y) = case_reach b (round_at ks q) (status_at ks q) k l in
        let (m, d) = (span_live b (round_at ks q) k).0 (subst (λ z. k < z) (reach_case b (round_at ks q) (status_at ks q) x y) l) in
        (x, m, d, y)),
    λ (x, m, d, y). subst (λ z. k < z) (sym (reach_case b (round_at ks q) (status_at ks q) x y)) ((span_live b (round_at ks q) k).1 (m, d)),
  )

  -- the code's steps: c is the case of the point
  module _ (c : Option DagPoint) (is : c ≡ case_of (status_at ks q)) where
    pub reach-nothing : c ≡ None → 0 ≡ reach b ks q
    unfolding reach reach_of
    reach-nothing e = ap (λ (x : Option DagPoint). reach_of x b (round_at ks q)) (sym e ∙ is)

    pub reach-span : (p : DagPoint) (r m : ℕ) → c ≡ Some p → r ≡ round_at ks q → span b r ≡ m → m ≡ reach b ks q
    unfolding reach reach_of
    reach-span p r m e g f = sym f ∙ (ap (span b) g ∙ ap (λ (x : Option DagPoint). reach_of x b (round_at ks q)) (sym e ∙ is))
