use Rattle.trace_write.specs.Rounds.{gap_said}
use Rattle.trace_write.proofs.rounds.put_gap.Goals as goal

pub returns : goal.returns
returns c = c.put_bare.ensures _ gap_said
