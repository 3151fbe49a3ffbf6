use Rattle.stats.specs.Ranges.{since_none, since_from}
use Rattle.stats.proofs.ranges.is_since.Goals as goal

pub returns-in-None : goal.returns-in-None
returns-in-None c = since_none _ _ c.in-None.is

pub returns-in-Some : goal.returns-in-Some
returns-in-Some c = since_from _ _ _ c.in-Some.is
