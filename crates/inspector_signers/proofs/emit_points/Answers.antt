use mathlib.Core.Path.{refl, sym, ◌∙◌}
use Rattle.std.proofs.Common.{◌<◌, length-take-le}
use Rattle.std.proofs.lemmas.List.{get_or-take}
use native.Mathlib.Omega.{arith}
use borrow.Author.Tests.{eq-eqb, ne_eqb}
use Rattle.inspector_events.specs.Told.{told-one, ready_one, passing-none, passing-yes, passing_no, passing_ready, passing_end}
use Rattle.inspector_signers.specs.Signers.{id-room}
use Rattle.inspector_signers.proofs.emit_points.Goals as goal
use Rattle.inspector_signers.proofs.emit_points.Goals.{then-author-signer, else-author-signer}

pub loop-q-init : goal.loop-q-init
loop-q-init c = passing-none _ _ _ _ _ _ _

pub author-author-requires : goal.author-author-requires
author-author-requires c =
    let l = c.loop-q in
    let lt : l.q-index < c.args.m = omega (arith, length-take-le c.args.m c.args.places.now c.requires.m_in_bounds.0) in
    rw get_or-take (c.requires.m_in_bounds.1 l.q-index lt)

pub emit_id-at-requires : goal.emit_id-at-requires
emit_id-at-requires c =
    let p = c.requires in
    let l = c.loop-q in
    let lt : l.q-index < c.args.m = omega (arith, length-take-le c.args.m c.args.places.now c.requires.m_in_bounds.0) in
    let at = get_or-take c.args.m c.args.places.now l.q-index 0 lt in
    (id-room _ _ _ _ (passing_ready _ _ _ _ _ _ _ l.q-index _ _ l.invariant _ at _ refl _ lt (eq-eqb _ _ (sym c.author-author.ensures ∙ c.if-author-signer.true)) p.ready), rw get_or-take (p.m_in_bounds.1 l.q-index lt))

pub overflow_add-out : goal.overflow_add-out
overflow_add-out c =
    let l = c.loop-q in
    let lt : l.q-index < c.args.m = omega (arith, length-take-le c.args.m c.args.places.now c.requires.m_in_bounds.0) in
    let at = get_or-take c.args.m c.args.places.now l.q-index 0 lt in
    let n = (ready_one _ _ _ _ _ (passing_ready _ _ _ _ _ _ _ l.q-index _ _ l.invariant _ at _ refl _ lt (eq-eqb _ _ (sym c.author-author.ensures ∙ c.if-author-signer.true)) c.requires.ready)).1 in
    omega (arith, n)

pub loop-q-preserved : goal.loop-q-preserved
loop-q-preserved c =
    let l = c.loop-q in
    let lt : l.q-index < c.args.m = omega (arith, length-take-le c.args.m c.args.places.now c.requires.m_in_bounds.0) in
    let at = get_or-take c.args.m c.args.places.now l.q-index 0 lt in
    elim c.if-author-signer.branch [ then-author-signer w ↦ passing-yes _ _ _ _ _ _ _ _ _ _ l.invariant _ at _ refl _ _ _ _ (eq-eqb _ _ (sym c.author-author.ensures ∙ w.if-author-signer.true)) (told-one _ _ _ _ _ _ _ w.emit_id-at.ensures refl) w.out-is w.b-is | else-author-signer w ↦ passing_no _ _ _ _ _ _ _ _ _ _ l.invariant _ at _ refl _ _ (ne_eqb _ _ (λ e. w.if-author-signer.false (c.author-author.ensures ∙ e))) w.out-is w.b-is ]

pub returns : goal.returns
returns c = let e = length-take-le c.args.m c.args.places.now c.requires.m_in_bounds.0 in passing_end _ _ _ _ _ _ _ _ _ _ c.loop-q.invariant _ (omega arith)
