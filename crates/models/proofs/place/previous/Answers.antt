use Rattle.models.specs.Ids.{previous_from}
use Rattle.models.proofs.place.previous.Goals as goal

pub returns : goal.returns
returns c = previous_from _ _ _ _ _ c.author-by.ensures c.slot-k.ensures _ _ c.id_from.ensures
