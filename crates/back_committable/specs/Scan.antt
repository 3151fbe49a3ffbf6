-- The first position that passes a test: the highest round first, inside a round the lowest position. Rounds rise with positions.
use Prim.Native.Nat.{ℕ, zero, suc, ◌-◌, ◌<◌, ◌≤◌}
use Rattle.std.specs.Prelude.{◌≡◌, Bool, true, false, ◌||◌, ◌⊎◌}
use Rattle.std.proofs.Math.Path.{refl}
use Rattle.std.proofs.Common.{sym, ap, ◌∙◌, inl, inr}
use Rattle.std.proofs.Math.Bool.{cond}
use native.Mathlib.Omega.{arith}
use Rattle.std.proofs.Math.Dec.{eqb}
use borrow.Author.Tests.{eq-eqb, ne_eqb}
use Rattle.laws.specs.Test.{by_test, clash, same_or}
use Rattle.back_history.specs.Down.{down_from, down_next}

-- p stands below what was found: it is tested sooner if it is the first found, or of the same round
unfoldable pub sooner_of : (ℕ → ℕ) → ℕ → ℕ → ℕ → ℕ
sooner_of r none found p = cond (eqb found none || eqb (r found) (r p)) p found

-- over the k positions below high, downwards
unfoldable pub scanned : (ℕ → Bool) → (ℕ → ℕ) → ℕ → ℕ → ℕ
scanned f r high = down_from (λ g p. cond (f p) (sooner_of r high g p) g) high high

-- ---- the steps of the code

module _ (r : ℕ → ℕ) (none found p : ℕ) where
  -- nothing was found yet
  pub sooner-first : found ≡ none → p ≡ sooner_of r none found p
  unfolding sooner_of
  sooner-first e = rw (eq-eqb found none e) refl

  -- the same round
  pub sooner-same : (found ≡ none → ⊥) → r found ≡ r p → p ≡ sooner_of r none found p
  unfolding sooner_of
  sooner-same n e = rw (ne_eqb found none n, eq-eqb (r found) (r p) e) refl

  -- another
  pub sooner_kept : (found ≡ none → ⊥) → (r found ≡ r p → ⊥) → found ≡ sooner_of r none found p
  unfolding sooner_of
  sooner_kept n e = rw (ne_eqb found none n, ne_eqb (r found) (r p) e) refl

module _ (f : ℕ → Bool) (r : ℕ → ℕ) (high : ℕ) where
  -- position p - 1 is next
  scanned-next : (p : ℕ) → 0 < p → p ≤ high → scanned f r high (high - (p - 1)) ≡ cond (f (p - 1)) (sooner_of r high (scanned f r high (high - p)) (p - 1)) (scanned f r high (high - p))
  unfolding scanned
  scanned-next = down_next (λ g p. cond (f p) (sooner_of r high g p) g) high high

  -- it passes
  pub scanned_hit : (g x p : ℕ) (b : Bool) → g ≡ scanned f r high (high - p) → 0 < p → p ≤ high → b ≡ f (p - 1) → b ≡ true → x ≡ sooner_of r high g (p - 1) → x ≡ scanned f r high (high - (p - 1))
  scanned_hit g x p b e z l h t u = rw (scanned-next p z l, ← h, t, ← e) u

  -- it fails
  pub scanned_miss : (g p : ℕ) (b : Bool) → g ≡ scanned f r high (high - p) → 0 < p → p ≤ high → b ≡ f (p - 1) → b ≡ false → g ≡ scanned f r high (high - (p - 1))
  scanned_miss g p b e z l h t = rw (scanned-next p z l, ← h, t) e

  -- what is found is a position, or high
  scanned-le : (k : ℕ) → scanned f r high k ≤ high
  unfolding scanned down_from sooner_of
  scanned-le zero = omega arith
  scanned-le (suc k) =
      let h : scanned f r high k ≤ high = scanned-le k in
      by_test (f (high - suc k))
      (λ t. rw t
      (by_test (eqb (scanned f r high k) high || eqb (r (scanned f r high k)) (r (high - suc k)))
      (λ y. rw y (omega arith))
      (λ n. rw n h)))
      (λ t. rw t h)

  -- at most high
  pub scanned_most : (g k : ℕ) → g ≡ scanned f r high k → g ≤ high
  scanned_most g k e = rw e (scanned-le k)

-- ---- what it says

-- a is tested before b
abbrev pub Earlier : (ℕ → ℕ) → ℕ → ℕ → Type 0
Earlier r a b = (r b < r a) ⊎ ((r a ≡ r b) × (a < b))

-- x is the first position from low to high that passes, or high if none does
pub record First (f : ℕ → Bool) (r : ℕ → ℕ) (low high x : ℕ) : Type 0 where
  pub above : low ≤ x
  pub most : x ≤ high
  pub passes : x < high → f x ≡ true
  pub least : (q : ℕ) → low ≤ q → q < high → f q ≡ true → (x < high) × ((q ≡ x) ⊎ Earlier r x q)

module _ (f : ℕ → Bool) (r : ℕ → ℕ) (high : ℕ) (rises : (i j : ℕ) → i ≤ j → j < high → r i ≤ r j) where
  -- one position more, which passes
  step_hit : (z x : ℕ) → z < high → First f r (suc z) high x → f z ≡ true → First f r z high (sooner_of r high x z)
  step_hit z x l h t =
      same_or x high
      (λ e. rw (← sooner-first r high x z e) (taken (λ q a b g. absurd (omega (arith, (h.least q a b g).0)))))
      (λ n. same_or (r x) (r z)
      (λ e. rw (← sooner-same r high x z n e) (taken (λ q a b g. behind e q a (h.least q a b g).1)))
      (λ d. rw (← sooner_kept r high x z n d) (kept n d)))
    where
      -- z is first: what passes above it comes later
      taken : ((q : ℕ) → suc z ≤ q → q < high → f q ≡ true → Earlier r z q) → First f r z high z
      taken later = record {
        above = omega arith;
        most = omega arith;
        passes = λ a. t;
        least = λ q a b g. (l, same_or q z (λ e. inl e) (λ e. inr (later q (omega arith) b g)));
      }

      behind : r x ≡ r z → (q : ℕ) → suc z ≤ q → (q ≡ x) ⊎ Earlier r x q → Earlier r z q
      behind e q a (inl g) = inr (sym e ∙ ap r (sym g), omega arith)
      behind e q a (inr (inl g)) = inl (omega arith)
      behind e q a (inr (inr g)) = inr (sym e ∙ g.0, omega arith)

      -- x stays first: z is of a lower round
      kept : (x ≡ high → ⊥) → (r x ≡ r z → ⊥) → First f r z high x
      kept n d =
          let b : x < high = omega (arith, h.most) in
          let lower : r z ≤ r x = rises z x (omega (arith, h.above)) b in
          let less : r z < r x = same_or (r x) (r z) (λ e. absurd (d e)) (λ e. omega arith) in
          record {
            above = omega (arith, h.above);
            most = h.most;
            passes = h.passes;
            least = λ q a c g. same_or q z (λ e. (b, inr (inl (rw e less)))) (λ e. h.least q (omega arith) c g);
          }

  -- one that does not
  step_miss : (z x : ℕ) → z < high → First f r (suc z) high x → f z ≡ false → First f r z high x
  step_miss z x l h t = record {
    above = omega (arith, h.above);
    most = h.most;
    passes = h.passes;
    least = λ q a b g. same_or q z (λ e. absurd (clash (rw e at g) t)) (λ e. h.least q (omega arith) b g);
  }

  -- k positions
  scanned-first : (k : ℕ) → k ≤ high → First f r (high - k) high (scanned f r high k)
  unfolding scanned down_from
  scanned-first zero l = record { above = omega arith; most = omega arith; passes = λ a. absurd (omega arith); least = λ q a b g. absurd (omega arith) }
  scanned-first (suc k) l =
      by_test (f (high - suc k))
      (λ t. rw t (step_hit (high - suc k) (scanned f r high k) (omega arith) (rw one at (scanned-first k (omega arith))) t))
      (λ t. rw t (step_miss (high - suc k) (scanned f r high k) (omega arith) (rw one at (scanned-first k (omega arith))) t))
    where
      one : high - k ≡ suc (high - suc k)
      one = omega arith

  -- it passes, and every other position that passes is tested later
  pub first_is : (low : ℕ) → low ≤ high → First f r low high (scanned f r high (high - low))
  first_is low l = rw back at (scanned-first (high - low) (omega arith))
    where
      back : high - (high - low) ≡ low
      back = omega arith
