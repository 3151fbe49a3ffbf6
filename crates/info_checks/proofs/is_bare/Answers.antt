use mathlib.Core.Path.{refl, sym}
use borrow.Author.Tests.{eq-eqb, ne_eqb}
use Rattle.laws.specs.Test.{and_no, and_yes}
use Rattle.info_checks.proofs.is_bare.Goals as goal

pub returns-then-includes-ne0 : goal.returns-then-includes-ne0
returns-then-includes-ne0 c = sym (and_no _ (ne_eqb _ _ c.if-includes-ne0.true))

pub returns-then-witness-ne0 : goal.returns-then-witness-ne0
returns-then-witness-ne0 c = sym (and_yes (eq-eqb _ _ c.if-includes-ne0.false) (and_no _ (ne_eqb _ _ c.if-witness-ne0.true)))

pub returns : goal.returns
returns c = sym (and_yes (eq-eqb _ _ c.if-includes-ne0.false) (and_yes (eq-eqb _ _ c.if-witness-ne0.false) refl))
