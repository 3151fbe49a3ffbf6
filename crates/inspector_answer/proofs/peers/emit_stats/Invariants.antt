use Rattle.laws.specs.Lists.{up_to}
use Rattle.spec.specs.Inspect.{stats_bytes}
use Rattle.answer_bytes.specs.Sent.{Sent}
use Rattle.inspector_answer.specs.Peers.{peer_of}
use Rattle.inspector_answer.proofs.peers.emit_stats.Given as goal

abbrev pub invariant-loop-k : goal.invariant-loop-k
invariant-loop-k l = Sent l.write l.initial.b l.initial.out (up_to l.k (λ a. stats_bytes a (peer_of l.fn.stats a))) l.out l.b
