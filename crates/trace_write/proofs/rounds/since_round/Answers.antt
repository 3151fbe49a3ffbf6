use Rattle.trace_write.specs.Rounds.{since_none, since_from}
use Rattle.trace_write.proofs.rounds.since_round.Goals as goal

pub returns-in-None : goal.returns-in-None
returns-in-None c = (since_none _ c.in-None.is).1

pub returns-in-Some : goal.returns-in-Some
returns-in-Some c = (since_from _ _ c.in-Some.is).1
