use Rattle.std.proofs.Common.{◌≡◌, ◌≤◌}
use Rattle.dag_round_order.specs.Shift.{opened}
use Rattle.dag_round_order.proofs.insert.Given as goal

-- the cells from k to n have moved up
abbrev pub invariant-loop-k : goal.invariant-loop-k
invariant-loop-k l = (l.at ≤ l.k) × (l.order ≡ opened l.initial.order l.n l.k)
