use Rattle.play_calls.specs.Calls.{certify_made}
use Rattle.play_calls.proofs.points.play_certify.Goals as goal

pub returns : goal.returns
returns c = certify_made _ _ _ _ _ c.id_of-id.ensures c.certify.ensures
