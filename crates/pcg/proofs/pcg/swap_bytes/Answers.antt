use Rattle.std.proofs.Common.{arith}
use Rattle.spec.specs.Pcg.{le}
use Rattle.laws.specs.Bytes.{be}
use Rattle.pcg.proofs.pcg.swap_bytes.Goals as goal

pub returns : goal.returns
unfolding le be
returns c = omega (arith, c.swap_bytes.ensures)
