use mathlib.Core.Path.{ap, sym}
use Rattle.inspector_counters.specs.Tests.{chosen}
use Rattle.inspector_counters.specs.declared.tests.PointTest.{PointTest}
use Rattle.inspector_counters.proofs.tests.Passed.by.Goals as goal

pub returns-in-Found : goal.returns-in-Found
unfolding chosen
returns-in-Found c = ap (λ (w : PointTest). chosen w c.args.self) (sym c.in-Found.is)

pub returns-in-Valid : goal.returns-in-Valid
unfolding chosen
returns-in-Valid c = ap (λ (w : PointTest). chosen w c.args.self) (sym c.in-Valid.is)

pub returns-in-Proved : goal.returns-in-Proved
unfolding chosen
returns-in-Proved c = ap (λ (w : PointTest). chosen w c.args.self) (sym c.in-Proved.is)

pub returns-in-TransInvalid : goal.returns-in-TransInvalid
unfolding chosen
returns-in-TransInvalid c = ap (λ (w : PointTest). chosen w c.args.self) (sym c.in-TransInvalid.is)

pub returns-in-Invalid : goal.returns-in-Invalid
unfolding chosen
returns-in-Invalid c = ap (λ (w : PointTest). chosen w c.args.self) (sym c.in-Invalid.is)

pub returns-in-IllFormed : goal.returns-in-IllFormed
unfolding chosen
returns-in-IllFormed c = ap (λ (w : PointTest). chosen w c.args.self) (sym c.in-IllFormed.is)

pub returns-in-Trusted : goal.returns-in-Trusted
unfolding chosen
returns-in-Trusted c = ap (λ (w : PointTest). chosen w c.args.self) (sym c.in-Trusted.is)
