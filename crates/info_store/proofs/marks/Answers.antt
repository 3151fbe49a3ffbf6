use native.Mathlib.Omega.{arith}
use Rattle.info_store.specs.Model.{marks_small, marks_by}
use Rattle.info_store.proofs.marks.Goals as goal

pub overflow_add-result : goal.overflow_add-result
overflow_add-result c =
    let a = c.args in
    omega (arith, marks_small a.proof a.trigger a.cause, marks_by _ _ _ a.proof a.trigger a.cause c.weight-p.ensures c.weight-t.ensures c.weight-c.ensures)

pub overflow_add-result-2 : goal.overflow_add-result-2
overflow_add-result-2 c =
    let a = c.args in
    omega (arith, marks_small a.proof a.trigger a.cause, marks_by _ _ _ a.proof a.trigger a.cause c.weight-p.ensures c.weight-t.ensures c.weight-c.ensures)

pub returns : goal.returns
returns c = marks_by _ _ _ _ _ _ c.weight-p.ensures c.weight-t.ensures c.weight-c.ensures
