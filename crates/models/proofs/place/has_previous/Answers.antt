use Rattle.models.specs.Ids.{previous_by}
use Rattle.models.proofs.place.has_previous.Goals as goal

pub returns : goal.returns
returns c = previous_by _ _ _ _ _ c.author.ensures c.slot-k.ensures _ c.target.ensures
