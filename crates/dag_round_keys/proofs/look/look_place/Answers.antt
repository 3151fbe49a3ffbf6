use mathlib.Core.Path.{refl}
use Rattle.dag_round_keys.specs.Look.{look_as, look_by}
use Rattle.dag_round_keys.proofs.look.look_place.Goals as goal

pub returns-in-Some : goal.returns-in-Some
unfolding look_as
returns-in-Some c = look_by _ _ _ _ c.case_at-case.ensures c.in-Some.is _ refl

pub returns-in-None : goal.returns-in-None
unfolding look_as
returns-in-None c = look_by _ _ _ _ c.case_at-case.ensures c.in-None.is _ refl
