use mathlib.Core.Path.{refl}
use Rattle.dag_round_keys.specs.Id.{id_from}
use Rattle.dag_round_keys.proofs.id_at.Goals as goal

pub returns : goal.returns
unfolding id_from
returns c = refl
