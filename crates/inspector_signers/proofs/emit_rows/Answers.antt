use mathlib.Core.Path.{refl}
use native.Mathlib.Omega.{arith}
use Rattle.inspector_events.specs.Told.{told-one, ready_one, passing-none, passing-yes, passing_no, passing_ready, passing_end}
use borrow.Author.Rules.{rules}
use Rattle.inspector_signers.proofs.emit_rows.Goals as goal
use Rattle.inspector_signers.proofs.emit_rows.Goals.{then-row_passes, else-row_passes}

pub loop-k-init : goal.loop-k-init
loop-k-init c = passing-none _ _ _ _ _ _ _

pub emit_row_id-at-requires : goal.emit_row_id-at-requires
emit_row_id-at-requires c =
    let l = c.loop-k in
    ((ready_one _ _ _ _ _ (passing_ready _ _ _ _ _ _ _ l.k _ _ l.invariant _ refl _ c.row_passes.ensures _ c.loop-k-test.true c.if-row_passes.true c.requires.ready)).0, search rules)

pub overflow_add-out : goal.overflow_add-out
overflow_add-out c =
    let l = c.loop-k in
    let h = (ready_one _ _ _ _ _ (passing_ready _ _ _ _ _ _ _ l.k _ _ l.invariant _ refl _ c.row_passes.ensures _ c.loop-k-test.true c.if-row_passes.true c.requires.ready)).1 in
    omega (arith, h)

pub loop-k-preserved : goal.loop-k-preserved
loop-k-preserved c =
    let l = c.loop-k in
    let is = c.row_passes.ensures in
    elim c.if-row_passes.branch [ then-row_passes w ↦ passing-yes _ _ _ _ _ _ _ _ _ _ l.invariant _ refl _ is _ _ _ _ w.if-row_passes.true (told-one _ _ _ _ _ _ _ w.emit_row_id-at.ensures refl) w.out-is w.b-is | else-row_passes w ↦ passing_no _ _ _ _ _ _ _ _ _ _ l.invariant _ refl _ is _ _ w.if-row_passes.false w.out-is w.b-is ]

pub returns : goal.returns
returns c = passing_end _ _ _ _ _ _ _ _ _ _ c.loop-k.invariant _ (omega arith)
