use Rattle.play_calls.specs.Calls.{round_made}
use Rattle.play_calls.proofs.rounds.play_round.Goals as goal

pub returns : goal.returns
returns c = round_made _ _ _ _ _ _ c.round_of-fields.ensures.0 c.round_of-fields.ensures.1 c.extend_from_ahead.ensures
