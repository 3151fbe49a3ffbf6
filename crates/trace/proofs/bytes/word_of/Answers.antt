use Prim.Native.Nat.{ℕ, ◌+◌, ◌*◌}
use native.Mathlib.Omega.{arith}
use mathlib.Core.List.{List}
use mathlib.Core.Path.{◌≡◌, refl}
use Rattle.std.proofs.Common.{get_or, ap}
use Rattle.trace.specs.Numbers.{number_at, number-four, number_eight}
use Rattle.trace.proofs.bytes.word_of.Goals as goal

-- the number in the last four bytes
low : (f : List ℕ) (p : ℕ) → ((get_or f (p + 4) 0 * 256 + get_or f (p + 5) 0) * 256 + get_or f (p + 6) 0) * 256 + get_or f (p + 7) 0 ≡ number_at f (p + 4) 4
low f p = number-four f (p + 4) _ _ _ _ refl (ap at (omega arith)) (ap at (omega arith)) (ap at (omega arith))
  where
    at : ℕ → ℕ
    at k = get_or f k 0

pub returns : goal.returns
returns c =
    omega (
      arith,
      c.from_be_bytes.ensures,
      number-four c.args.f.now c.args.at _ _ _ _ refl refl refl refl,
      low c.args.f.now c.args.at,
      number_eight c.args.f.now c.args.at _ _ refl refl,
    )
