use Rattle.trace.specs.Kinds as kind
use Rattle.play_calls.specs.Calls.{lent_made, outlook_made}
use Rattle.play_calls.proofs.points.play_outlook.Goals as goal

pub returns : goal.returns
returns c = lent_made _ _ kind.Outlook _ _ _ c.clear.ensures (outlook_made _ _ _ _ _ c.id_of-id.ensures c.outlook.ensures)
