use mathlib.Core.Path.{refl}
use Rattle.dag_round_points.specs.Model.{named_state}
use Rattle.dag_round_points.proofs.named.Goals as goal

pub returns : goal.returns
unfolding named_state
returns c = refl
