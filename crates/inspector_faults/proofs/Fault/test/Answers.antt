use mathlib.Core.Path.{ap, sym}
use Rattle.inspector_faults.specs.Faults.{test_for}
use Rattle.inspector_faults.proofs.Fault.test.Goals as goal

pub returns-in-TransInvalid : goal.returns-in-TransInvalid
unfolding test_for
returns-in-TransInvalid c = ap test_for (sym c.in-TransInvalid.is)

pub returns-in-Invalid : goal.returns-in-Invalid
unfolding test_for
returns-in-Invalid c = ap test_for (sym c.in-Invalid.is)

pub returns-in-IllFormed : goal.returns-in-IllFormed
unfolding test_for
returns-in-IllFormed c = ap test_for (sym c.in-IllFormed.is)

pub returns-in-Equivocated : goal.returns-in-Equivocated
unfolding test_for
returns-in-Equivocated c = ap test_for (sym c.in-Equivocated.is)
