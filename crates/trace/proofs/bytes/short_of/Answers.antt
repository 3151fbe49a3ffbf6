use native.Mathlib.Omega.{arith}
use mathlib.Core.Path.{refl}
use Rattle.trace.specs.Numbers.{number-two}
use Rattle.trace.proofs.bytes.short_of.Goals as goal

pub returns : goal.returns
returns c = omega (arith, c.from_be_bytes.ensures, number-two c.args.f.now c.args.at _ _ refl refl)
