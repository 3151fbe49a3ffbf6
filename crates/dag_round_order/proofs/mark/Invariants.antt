use Rattle.std.proofs.Common.{◌≡◌}
use Rattle.dag_round_order.specs.Marks.{marked}
use Rattle.dag_round_order.proofs.mark.Given as goal

abbrev pub invariant-loop-cell : goal.invariant-loop-cell
invariant-loop-cell l = l.marks ≡ marked l.initial.marks l.fn.order l.cell-index
