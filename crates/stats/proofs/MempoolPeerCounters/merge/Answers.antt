use Rattle.stats.specs.Counters.{merge_from}
use Rattle.stats.proofs.MempoolPeerCounters.merge.Goals as goal

pub returns : goal.returns
returns c = merge_from _ _ _ _ _ _ _ _ _ _ _ c.saturating_add.ensures c.saturating_add-2.ensures c.saturating_add-3.ensures c.saturating_add-4.ensures c.saturating_add-5.ensures c.saturating_add-6.ensures c.saturating_add-7.ensures c.saturating_add-8.ensures c.saturating_add-9.ensures
