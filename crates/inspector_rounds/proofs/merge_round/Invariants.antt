use Rattle.inspector_rounds.specs.Merge.{MergedTo}
use Rattle.inspector_rounds.proofs.merge_round.Given as goal

abbrev pub invariant-loop-author : goal.invariant-loop-author
invariant-loop-author l = MergedTo l.initial.merged l.peers l.counted l.round l.fn.counters l.author l.merged
