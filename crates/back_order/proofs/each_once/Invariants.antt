use Rattle.back_order.specs.Each.{Seen}
use Rattle.back_order.proofs.each_once.Given as goal

abbrev pub invariant-loop-byte : goal.invariant-loop-byte
invariant-loop-byte l = Seen l.lists l.from l.n l.byte-index l.seen
