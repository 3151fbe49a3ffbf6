use Rattle.back_order.specs.Picks.{Rank}
use Rattle.back_order.proofs.ranked.Given as goal

abbrev pub invariant-loop-k : goal.invariant-loop-k
invariant-loop-k l = Rank l.order l.marks l.low l.high l._k l.p
