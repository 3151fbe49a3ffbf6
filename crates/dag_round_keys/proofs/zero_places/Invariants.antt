use Rattle.std.proofs.Common.{◌≡◌}
use Rattle.dag_round_keys.specs.Zero.{emptied}
use Rattle.dag_round_keys.proofs.zero_places.Given as goal

abbrev pub invariant-loop-cell : goal.invariant-loop-cell
invariant-loop-cell l = l.t ≡ emptied l.initial.t l.width l.fn.order l.cell-index
