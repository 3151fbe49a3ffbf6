use mathlib.Core.Path.{sym, ◌∙◌}
use native.Mathlib.Omega.{arith}
use borrow.Author.Tests.{not-true, not-false}
use Rattle.trace.specs.Head.{whole_elim}
use Rattle.trace.proofs.CodeAt.{record_cut}
use Rattle.trace.proofs.head.record_at.Goals as goal

pub returns-then-not-whole_at : goal.returns-then-not-whole_at
returns-then-not-whole_at c = record_cut _ _ _ (sym c.whole_at.ensures ∙ not-true _ c.if-not-whole_at.true-raw)

pub number_of-rest-requires : goal.number_of-rest-requires
number_of-rest-requires c = omega (arith, whole_elim _ _ (sym c.whole_at.ensures ∙ not-false _ c.if-not-whole_at.false-raw))

pub whole_record-requires : goal.whole_record-requires
whole_record-requires c = let w = sym c.whole_at.ensures ∙ not-false _ c.if-not-whole_at.false-raw in
    let e = whole_elim _ _ w in
    record { at_value = w; rest_value = (c.number_of-rest.ensures, rw c.number_of-rest.ensures e.0, rw c.number_of-rest.ensures e.2) }
