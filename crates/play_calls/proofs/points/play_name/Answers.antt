use Rattle.play_calls.specs.Calls.{name_made}
use Rattle.play_calls.proofs.points.play_name.Goals as goal

pub returns : goal.returns
returns c = name_made _ _ _ _ _ c.id_of-id.ensures c.add_dependency.ensures
