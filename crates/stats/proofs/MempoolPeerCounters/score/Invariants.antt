use Rattle.std.proofs.Common.{◌*◌, ◌≤◌, ◌≡◌}
use Rattle.stats.specs.Counters.{score_to}
use Rattle.stats.proofs.MempoolPeerCounters.score.Given as goal

abbrev pub invariant-loop-counter : goal.invariant-loop-counter
invariant-loop-counter l = (l.sum ≤ l.counter * 3932160) × (l.sum ≡ score_to l.count-items l.counter)
