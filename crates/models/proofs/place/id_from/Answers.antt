use mathlib.Core.Path.{refl}
use Rattle.models.specs.Ids.{id_from}
use Rattle.models.proofs.place.id_from.Goals as goal

pub returns : goal.returns
unfolding id_from
returns c = refl
