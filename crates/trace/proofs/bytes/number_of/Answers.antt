use native.Mathlib.Omega.{arith}
use mathlib.Core.Path.{refl}
use Rattle.trace.specs.Numbers.{number-four}
use Rattle.trace.proofs.bytes.number_of.Goals as goal

pub returns : goal.returns
returns c = omega (arith, c.from_be_bytes.ensures, number-four c.args.f.now c.args.at _ _ _ _ refl refl refl refl)
