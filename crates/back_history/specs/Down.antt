-- A loop over the positions below `high`, downwards.
use Prim.Native.Nat.{ℕ, zero, suc, ◌-◌, ◌<◌, ◌≤◌}
use Rattle.std.specs.Prelude.{◌≡◌}
use Rattle.std.proofs.Math.Path.{refl}
use Rattle.std.proofs.Common.{ap}
use native.Mathlib.Omega.{arith}
use Rattle.std.proofs.Math.Nat.{sub_self}

-- what k turns leave of z
unfoldable pub down_from : {A : Type 0} → (A → ℕ → A) → A → ℕ → ℕ → A
down_from f z high zero = z
down_from f z high (suc k) = f (down_from f z high k) (high - suc k)

module _ {A : Type 0} (f : A → ℕ → A) (z : A) (high : ℕ) where
  -- position p - 1 is next
  pub down_next : (p : ℕ) → 0 < p → p ≤ high → down_from f z high (high - (p - 1)) ≡ f (down_from f z high (high - p)) (p - 1)
  unfolding down_from
  down_next p l h = rw (one, down_from) (ap (f (down_from f z high (high - p))) back)
    where
      one : high - (p - 1) ≡ suc (high - p)
      one = omega arith

      back : high - suc (high - p) ≡ p - 1
      back = omega arith

  -- before the first
  pub down_none : z ≡ down_from f z high (high - high)
  unfolding down_from
  down_none = rw sub_self refl

  -- after the last
  pub down_end : (g : A) (p low : ℕ) → g ≡ down_from f z high (high - p) → low ≤ p → p ≤ low → g ≡ down_from f z high (high - low)
  down_end g p low e l h = let d : p ≡ low = omega arith in rw d at e
