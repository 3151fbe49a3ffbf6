use Rattle.inspector_counters.specs.Counts.{counting_is}
use Rattle.inspector_counters.proofs.counts.PointCounts.add.Goals as goal

pub returns : goal.returns
returns c = counting_is _ _ _ _ _ _ _ _ c.add_if.ensures c.add_if-2.ensures c.add_if-3.ensures c.add_if-4.ensures c.add_if-5.ensures c.add_if-6.ensures
