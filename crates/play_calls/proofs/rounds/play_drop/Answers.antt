use Rattle.play_calls.specs.Calls.{drop_made}
use Rattle.play_calls.proofs.rounds.play_drop.Goals as goal

pub returns : goal.returns
returns c = drop_made _ _ _ _ _ c.number_of-round.ensures c.drop_upto.ensures
