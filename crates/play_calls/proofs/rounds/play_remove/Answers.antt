use Rattle.trace.specs.Kinds as kind
use Rattle.play_calls.specs.Calls.{lent_made, remove_made}
use Rattle.play_calls.proofs.rounds.play_remove.Goals as goal

pub returns : goal.returns
returns c = lent_made _ _ kind.Remove _ _ _ c.clear.ensures (remove_made _ _ _ _ _ _ c.remove_of-fields.ensures.0 c.remove_of-fields.ensures.1 c.remove_committed.ensures)
