use Rattle.play_calls.specs.Calls.{start_made}
use Rattle.play_calls.proofs.rounds.play_start.Goals as goal

pub returns : goal.returns
returns c = start_made _ _ _ _ _ c.start_of-with.ensures c.init.ensures
