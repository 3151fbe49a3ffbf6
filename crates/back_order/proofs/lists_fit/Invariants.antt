use Prim.Native.Nat.{◌≤◌}
use lib.ListN.{length}
use Rattle.back_order.specs.Counts.{Fits}
use Rattle.back_order.proofs.lists_fit.Given as goal

abbrev pub invariant-loop-k : goal.invariant-loop-k
invariant-loop-k l = (l.end ≤ length l.lists) × Fits l.keys l.order l.n l.marks l.round.0 l.lists l.from l.k l.end
