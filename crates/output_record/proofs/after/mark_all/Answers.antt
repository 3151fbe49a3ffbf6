use Rattle.std.proofs.Common.{ℕ, ◌+◌, ◌<◌, ◌≡◌, length, get_or, arith, refl, sym, ap, ◌∙◌, add-zero, length-set}
use Rattle.std.proofs.lemmas.List.{length-take, length-drop}
use Rattle.models.specs.Cert.{committed_word}
use Rattle.back_history.proofs.Cells.{cell}
use Rattle.output_record.specs.Marks.{marks-none, marks-yes, marks_no, marks_small}
use Rattle.output_record.proofs.after.mark_all.Goals as goal
use Rattle.output_record.proofs.after.mark_all.Goals.{After-slot-q, then-is_uncommitted, else-is_uncommitted}

-- the place is the one at position low + k, and has a word
at : (c : After-slot-q) → c.slot-q.result ≡ get_or c.args.order.now (c.args.low + c.loop-word.word-index) 0
at c = cell c.args.order.now c.args.low c.args.high c.loop-word.word-index c.slot-q.result c.loop-word-test.true c.slot-q.ensures

within : (c : After-slot-q) → c.slot-q.result < length c.args.certs.now
within c = let h = c.requires.3 (c.args.low + c.loop-word.word-index) (omega (arith, length-take {A = ℕ})) in omega (arith, at c, h)

pub loop-word-init : goal.loop-word-init
loop-word-init c = (refl, rw add-zero (marks-none _ _ _ _))

pub is_uncommitted-requires : goal.is_uncommitted-requires
is_uncommitted-requires c = let h = within c in (omega (arith, h, c.requires.2), omega (arith, h, c.loop-word.invariant.0))

pub set_committed-done-requires : goal.set_committed-done-requires
set_committed-done-requires c =
    let a = c.args in
    let l = c.loop-word in
    let i = a.low + l.word-index in
    let lt : i < a.high = omega (arith, length-take {A = ℕ}) in
    let at = cell a.order.now a.low a.high l.word-index c.slot-q.result c.loop-word-test.true c.slot-q.ensures in
    let small = marks_small a.order.now a.marks.now a.low a.certs.now i _ (c.requires.3 i lt) (c.requires.4 i lt) in
    rw (at, l.invariant.1) small

pub loop-word-preserved : goal.loop-word-preserved
unfolding committed_word
loop-word-preserved c =
    let a = c.args in
    let l = c.loop-word in
    let is = c.is_uncommitted.ensures in
    let at = cell a.order.now a.low a.high l.word-index c.slot-q.result c.loop-word-test.true c.slot-q.ensures in
    let next : a.low + (l.word-index + 1) ≡ a.low + l.word-index + 1 = omega arith in
    elim c.if-is_uncommitted.branch [ then-is_uncommitted w ↦ (ap length w.certs-is ∙ (length-set l.certs _ _ ∙ l.invariant.0), rw next (marks-yes _ _ _ _ _ _ (a.low + l.word-index) _ l.invariant.1 at (omega arith) (sym is ∙ w.if-is_uncommitted.true) _ w.set_committed-done.ensures w.certs-is)) | else-is_uncommitted w ↦ (ap length w.certs-is ∙ l.invariant.0, rw next (marks_no _ _ _ _ _ _ (a.low + l.word-index) _ l.invariant.1 at (sym is ∙ w.if-is_uncommitted.false) w.certs-is)) ]

pub returns : goal.returns
returns c =
    let l = c.loop-word in
    let a = c.args in
    let e : a.low + l.word-index ≡ a.high = omega (arith, length-take {A = ℕ}, length-drop {A = ℕ}) in
    rw e at l.invariant.1
