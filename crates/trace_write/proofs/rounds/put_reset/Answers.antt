use Rattle.trace_write.specs.Rounds.{reset_said}
use Rattle.trace_write.proofs.rounds.put_reset.Goals as goal

pub returns : goal.returns
returns c = c.put_bare.ensures _ reset_said
