use Rattle.trace_write.specs.Rounds.{used_none, used_some}
use Rattle.trace_write.proofs.rounds.used_fits.Goals as goal

pub returns-in-None : goal.returns-in-None
returns-in-None c = (used_none _ c.in-None.is).0

pub returns-in-Some : goal.returns-in-Some
returns-in-Some c = (used_some _ _ c.in-Some.is).0
