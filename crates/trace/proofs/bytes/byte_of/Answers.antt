use mathlib.Core.Path.{refl}
use native.Mathlib.Omega.{arith}
use Rattle.trace.proofs.bytes.byte_of.Goals as goal

pub returns : goal.returns
returns c = (refl, omega (arith, c.type_inv.f c.args.at))
