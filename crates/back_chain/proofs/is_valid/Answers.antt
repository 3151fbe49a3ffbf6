use mathlib.Core.Path.{ap, sym}
use Rattle.models.specs.DagPoint.{is_valid}
use Rattle.back_chain.specs.Model.{valid_of, valid_case}
use Rattle.back_chain.proofs.is_valid.Goals as goal

pub returns-in-Never : goal.returns-in-Never
unfolding valid_of
returns-in-Never c = ap valid_of (sym c.in-Never.is)

pub returns-in-Named : goal.returns-in-Named
unfolding valid_of
returns-in-Named c = ap valid_of (sym c.in-Named.is)

pub returns-in-Valid : goal.returns-in-Valid
unfolding is_valid
returns-in-Valid c = valid_case _ _ _ _ c.in-Resolved.is c.in-Valid.is

pub returns-in-TransInvalid : goal.returns-in-TransInvalid
unfolding is_valid
returns-in-TransInvalid c = valid_case _ _ _ _ c.in-Resolved.is c.in-TransInvalid.is

pub returns-in-Invalid : goal.returns-in-Invalid
unfolding is_valid
returns-in-Invalid c = valid_case _ _ _ _ c.in-Resolved.is c.in-Invalid.is

pub returns-in-IllFormed : goal.returns-in-IllFormed
unfolding is_valid
returns-in-IllFormed c = valid_case _ _ _ _ c.in-Resolved.is c.in-IllFormed.is

pub returns-in-NotFound : goal.returns-in-NotFound
unfolding is_valid
returns-in-NotFound c = valid_case _ _ _ _ c.in-Resolved.is c.in-NotFound.is
