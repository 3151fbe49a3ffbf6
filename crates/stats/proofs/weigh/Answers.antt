use Rattle.stats.specs.Counters.{weighed}
use borrow.Author.Rules.{rules}
use Rattle.stats.proofs.weigh.Goals as goal

pub overflow_mul-result : goal.overflow_mul-result
overflow_mul-result c = let h = weighed _ _ _ c.ranges.count.fits c.weight_of-weight.ensures in search rules

pub returns : goal.returns
returns c = weighed _ _ _ c.ranges.count.fits c.weight_of-weight.ensures
