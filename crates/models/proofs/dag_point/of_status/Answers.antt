use mathlib.Core.Path.{ap, sym}
use Rattle.models.specs.DagPoint.{case_of, case_none}
use Rattle.models.proofs.dag_point.of_status.Goals as goal

pub returns-in-1 : goal.returns-in-1
unfolding case_of
returns-in-1 c = ap case_of (sym c.in-1.is)

pub returns-in-2 : goal.returns-in-2
unfolding case_of
returns-in-2 c = ap case_of (sym c.in-2.is)

pub returns-in-3 : goal.returns-in-3
unfolding case_of
returns-in-3 c = ap case_of (sym c.in-3.is)

pub returns-in-4 : goal.returns-in-4
unfolding case_of
returns-in-4 c = ap case_of (sym c.in-4.is)

pub returns-in-5 : goal.returns-in-5
unfolding case_of
returns-in-5 c = ap case_of (sym c.in-5.is)

pub returns-in_default : goal.returns-in_default
unfolding case_of
returns-in_default c = case_none _ c.in_default.in_default-own.rest.0.0.0.0.1 c.in_default.in_default-own.rest.0.0.0.1 c.in_default.in_default-own.rest.0.0.1 c.in_default.in_default-own.rest.0.1 c.in_default.in_default-own.rest.1
