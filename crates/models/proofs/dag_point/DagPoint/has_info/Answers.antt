use mathlib.Core.Path.{ap, sym}
use Rattle.models.specs.DagPoint.{has_info}
use Rattle.models.proofs.dag_point.DagPoint.has_info.Goals as goal

pub returns-in-Valid : goal.returns-in-Valid
unfolding has_info
returns-in-Valid c = ap has_info (sym c.in-Valid.is)

pub returns-in-TransInvalid : goal.returns-in-TransInvalid
unfolding has_info
returns-in-TransInvalid c = ap has_info (sym c.in-TransInvalid.is)

pub returns-in-Invalid : goal.returns-in-Invalid
unfolding has_info
returns-in-Invalid c = ap has_info (sym c.in-Invalid.is)

pub returns-in-IllFormed : goal.returns-in-IllFormed
unfolding has_info
returns-in-IllFormed c = ap has_info (sym c.in-IllFormed.is)

pub returns-in-NotFound : goal.returns-in-NotFound
unfolding has_info
returns-in-NotFound c = ap has_info (sym c.in-NotFound.is)
