use Rattle.inspector_counters.specs.Counts.{Counted}
use Rattle.inspector_counters.proofs.counts.round_counts.Given as goal

abbrev pub invariant-loop-point : goal.invariant-loop-point
invariant-loop-point l = Counted l.keys l.certs l.order l.low l.point-index l.counts
