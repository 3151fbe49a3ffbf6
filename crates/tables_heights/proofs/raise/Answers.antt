use Rattle.std.proofs.Common.{sym}
use Rattle.tables_heights.specs.Model.{raised, raised_out}
use Rattle.tables_heights.proofs.raise.Goals as goal

pub returns-then-i-cells : goal.returns-then-i-cells
unfolding raised
returns-then-i-cells c = rw c.max.ensures

pub returns-else-i-cells : goal.returns-else-i-cells
returns-else-i-cells c = sym (raised_out _ _ _ c.if-i-cells.false)
