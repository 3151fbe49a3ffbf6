use mathlib.Core.Path.{refl}
use Rattle.std.proofs.Common.{◌≡◌, ◌∙◌, ◌+◌, ◌-◌, ◌<◌, ℕ, List, get_or, take, drop, arith}
use Rattle.std.proofs.lemmas.List.{get_or-take, get_or-drop}
use Rattle.models.specs.Tables.{place_at}
use Rattle.inspector_events.specs.Told.{told-one, ready_one, passing-none, passing-yes, passing_no, passing_ready, passing_end}
use Rattle.inspector_events.specs.Author.{digest_room}
use borrow.Author.Rules.{rules}
use Rattle.inspector_events.proofs.author.emit_digests.Goals as goal
use Rattle.inspector_events.proofs.author.emit_digests.Goals.{then-passes, else-passes}

-- the elements of a part of a list
item : (os : List ℕ) (low n j : ℕ) → j < n → get_or (take n (drop low os)) j 0 ≡ get_or os (low + j) 0
item os low n j l = get_or-take n (drop low os) j 0 l ∙ get_or-drop low os j 0

pub loop-point-init : goal.loop-point-init
loop-point-init c = passing-none _ _ _ _ _ _ _

pub emit_digest-at-requires : goal.emit_digest-at-requires
emit_digest-at-requires c =
    let l = c.loop-point in
    let at : c.slot-q.result ≡ place_at c.args.order.now (c.args.low + l.point-index) = c.slot-q.ensures ∙ item _ c.args.low (c.args.high - c.args.low) l.point-index (omega arith) in
    (digest_room _ _ _ _ (passing_ready _ _ _ _ _ _ _ l.point-index _ _ l.invariant _ at _ c.passes.ensures _ (omega arith) c.if-passes.true c.requires.ready), search rules)

pub overflow_add-out : goal.overflow_add-out
overflow_add-out c =
    let l = c.loop-point in
    let at : c.slot-q.result ≡ place_at c.args.order.now (c.args.low + l.point-index) = c.slot-q.ensures ∙ item _ c.args.low (c.args.high - c.args.low) l.point-index (omega arith) in
    let h = (ready_one _ _ _ _ _ (passing_ready _ _ _ _ _ _ _ l.point-index _ _ l.invariant _ at _ c.passes.ensures _ (omega arith) c.if-passes.true c.requires.ready)).1 in
    omega (arith, h)

pub loop-point-preserved : goal.loop-point-preserved
loop-point-preserved c =
    let l = c.loop-point in
    let at : c.slot-q.result ≡ place_at c.args.order.now (c.args.low + l.point-index) = c.slot-q.ensures ∙ item _ c.args.low (c.args.high - c.args.low) l.point-index (omega arith) in
    let is = c.passes.ensures in
    elim c.if-passes.branch [ then-passes w ↦ passing-yes _ _ _ _ _ _ _ _ _ _ l.invariant _ at _ is _ _ _ _ w.if-passes.true (told-one _ _ _ _ _ _ _ w.emit_digest-at.ensures refl) w.out-is w.b-is | else-passes w ↦ passing_no _ _ _ _ _ _ _ _ _ _ l.invariant _ at _ is _ _ w.if-passes.false w.out-is w.b-is ]

pub returns : goal.returns
returns c = passing_end _ _ _ _ _ _ _ _ _ _ c.loop-point.invariant _ (omega arith)
