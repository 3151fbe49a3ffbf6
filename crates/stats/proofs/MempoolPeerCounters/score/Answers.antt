use Rattle.std.proofs.Common.{refl, arith, rules}
use Rattle.stats.specs.Counters.{score_to, score-more, score_is}
use Rattle.stats.proofs.MempoolPeerCounters.score.Goals as goal

pub loop-counter-init : goal.loop-counter-init
unfolding score_to
loop-counter-init c = (search rules, refl)

pub loop-counter-preserved : goal.loop-counter-preserved
loop-counter-preserved c = (omega (arith, c.loop-counter.invariant.0, c.weigh-sum.ensures.1), score-more _ _ _ _ _ c.loop-counter.invariant.1 c.weigh-sum.ensures.0 refl)

pub returns : goal.returns
returns c = score_is _ _ _ _ c.counts-counts.ensures c.loop-counter.invariant.1 (omega arith)
