use Rattle.std.proofs.Common.{◌<◌, refl, ◌∙◌, arith}
use Rattle.std.proofs.lemmas.List.{get_or-take, length-take-le}
use Rattle.dag_round_order.specs.Marks.{marked, marked_more}
use Rattle.dag_round_order.proofs.mark.Goals as goal

pub loop-cell-init : goal.loop-cell-init
unfolding marked
loop-cell-init c = refl

pub loop-cell-preserved : goal.loop-cell-preserved
loop-cell-preserved c =
    let a = c.args in
    let i = c.loop-cell.cell-index in
    let k : i < a.n = omega (arith, length-take-le a.n a.order.now c.requires.order_in_bounds.1) in
    marked_more _ _ _ _ _ _ c.loop-cell.invariant (c.slot.ensures ∙ get_or-take a.n a.order.now i 0 k) refl
