use Rattle.std.proofs.Common.{◌≡◌}
use Rattle.dag_round_order.specs.Shift.{moved}
use Rattle.dag_round_order.proofs.drain.Given as goal

-- i cells have moved down
abbrev pub invariant-loop-i : goal.invariant-loop-i
invariant-loop-i l = l.order ≡ moved l.initial.order l.k l.i
