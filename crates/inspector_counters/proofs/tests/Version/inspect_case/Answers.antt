use Rattle.std.proofs.Common.{refl, sym, ◌∙◌}
use Rattle.laws.specs.Test.{and_no, and_yes}
use Rattle.inspector_counters.specs.Tests.{case_valid, case_trans_invalid, case_invalid, case_ill_formed, case_not_found}
use Rattle.inspector_counters.proofs.tests.Version.inspect_case.Goals as goal

pub returns-in-Valid : goal.returns-in-Valid
returns-in-Valid c = case_valid _ _ _ _ _ c.new-r.ensures c.in-Valid.is

pub returns-then-not-self : goal.returns-then-not-self
returns-then-not-self c = case_trans_invalid _ _ _ _ _ c.new-r.ensures _ c.in-TransInvalid.is (sym (and_yes c.if-not-self.true refl))

pub returns-else-not-self : goal.returns-else-not-self
returns-else-not-self c = case_trans_invalid _ _ _ _ _ c.new-r.ensures _ c.in-TransInvalid.is (c.if-not-self.false ∙ sym (and_no _ c.if-not-self.false))

pub returns-then-not-self-2 : goal.returns-then-not-self-2
returns-then-not-self-2 c = case_invalid _ _ _ _ _ c.new-r.ensures _ c.in-Invalid.is (sym (and_yes c.if-not-self-2.true refl))

pub returns-else-not-self-2 : goal.returns-else-not-self-2
returns-else-not-self-2 c = case_invalid _ _ _ _ _ c.new-r.ensures _ c.in-Invalid.is (c.if-not-self-2.false ∙ sym (and_no _ c.if-not-self-2.false))

pub returns-in-IllFormed : goal.returns-in-IllFormed
returns-in-IllFormed c = case_ill_formed _ _ _ _ _ c.new-r.ensures c.in-IllFormed.is

pub returns-in-NotFound : goal.returns-in-NotFound
returns-in-NotFound c = case_not_found _ _ _ _ _ c.new-r.ensures c.in-NotFound.is
