use mathlib.Core.Path.{refl}
use Rattle.back_walk.specs.Model.{judge_of, judge_by}
use Rattle.back_walk.proofs.judge.Goals as goal

pub returns-in-Valid : goal.returns-in-Valid
unfolding judge_of
returns-in-Valid c = judge_by _ _ c.in-Valid.is _ _ _ refl

pub returns-in-TransInvalid : goal.returns-in-TransInvalid
unfolding judge_of
returns-in-TransInvalid c = judge_by _ _ c.in-TransInvalid.is _ _ _ c.not_valid.ensures

pub returns-in-Invalid : goal.returns-in-Invalid
unfolding judge_of
returns-in-Invalid c = judge_by _ _ c.in-Invalid.is _ _ _ c.not_valid-in-Invalid.ensures

pub returns-in-IllFormed : goal.returns-in-IllFormed
unfolding judge_of
returns-in-IllFormed c = judge_by _ _ c.in-IllFormed.is _ _ _ c.not_valid-in-IllFormed.ensures

pub returns-in-NotFound : goal.returns-in-NotFound
unfolding judge_of
returns-in-NotFound c = judge_by _ _ c.in-NotFound.is _ _ _ c.not_valid-in-NotFound.ensures
