use lib.ListN.{get_or}
use Rattle.laws.specs.Bytes.{be}
use Rattle.laws.specs.Lists.{up_to}
use Rattle.answer_bytes.specs.Sent.{Sent}
use Rattle.inspector_answer.proofs.peers.emit_counters.Given as goal

abbrev pub invariant-loop-count : goal.invariant-loop-count
invariant-loop-count l = Sent l.write l.initial.b l.at (up_to l.count-index (λ i. be 2 (get_or l.count-items i 0))) l.out l.b
