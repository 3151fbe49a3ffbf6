use mathlib.Core.Path.{ap, sym}
use Rattle.inspector_faults.specs.Faults.{kind_of}
use Rattle.inspector_faults.proofs.Fault.kind.Goals as goal

pub returns-in-TransInvalid : goal.returns-in-TransInvalid
unfolding kind_of
returns-in-TransInvalid c = ap kind_of (sym c.in-TransInvalid.is)

pub returns-in-Invalid : goal.returns-in-Invalid
unfolding kind_of
returns-in-Invalid c = ap kind_of (sym c.in-Invalid.is)

pub returns-in-IllFormed : goal.returns-in-IllFormed
unfolding kind_of
returns-in-IllFormed c = ap kind_of (sym c.in-IllFormed.is)

pub returns-in-Equivocated : goal.returns-in-Equivocated
unfolding kind_of
returns-in-Equivocated c = ap kind_of (sym c.in-Equivocated.is)
