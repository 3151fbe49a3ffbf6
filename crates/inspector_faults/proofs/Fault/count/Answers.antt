use mathlib.Core.Path.{ap, sym}
use Rattle.inspector_faults.specs.Faults.{count_for}
use Rattle.inspector_faults.specs.declared.Fault.{Fault}
use Rattle.inspector_faults.proofs.Fault.count.Goals as goal

pub returns-in-TransInvalid : goal.returns-in-TransInvalid
unfolding count_for
returns-in-TransInvalid c = ap (λ (f : Fault). count_for f c.args.counts) (sym c.in-TransInvalid.is)

pub returns-in-Invalid : goal.returns-in-Invalid
unfolding count_for
returns-in-Invalid c = ap (λ (f : Fault). count_for f c.args.counts) (sym c.in-Invalid.is)

pub returns-in-IllFormed : goal.returns-in-IllFormed
unfolding count_for
returns-in-IllFormed c = ap (λ (f : Fault). count_for f c.args.counts) (sym c.in-IllFormed.is)

pub returns-in-Equivocated : goal.returns-in-Equivocated
unfolding count_for
returns-in-Equivocated c = ap (λ (f : Fault). count_for f c.args.counts) (sym c.in-Equivocated.is)
