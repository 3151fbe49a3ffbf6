use Rattle.models.specs.Ids.{top_by}
use Rattle.models.proofs.place.top_proof.Goals as goal

pub returns : goal.returns
returns c = top_by _ _ _ _ _ c.head_word-round.ensures c.head_word-author.ensures c.id_from.ensures
