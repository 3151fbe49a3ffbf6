use mathlib.Core.Path.{◌≡◌}
use Rattle.inspector_answer.specs.Peers.{with_stats_to}
use Rattle.inspector_answer.proofs.peers.peers_with_stats.Given as goal

abbrev pub invariant-loop-k : goal.invariant-loop-k
invariant-loop-k l = l.peers ≡ with_stats_to l.fn.stats l.k
