use mathlib.Core.Path.{refl}
use Rattle.dag_round_points.specs.Model.{id_words}
use Rattle.dag_round_points.proofs.id_words.Goals as goal

pub returns : goal.returns
unfolding id_words
returns c = refl
