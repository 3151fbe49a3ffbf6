use Rattle.std.proofs.Common.{ℕ, ◌+◌, ◌<◌, ◌≡◌, length, get_or, arith, ap, ◌∙◌, add-zero, length-set}
use Rattle.std.proofs.lemmas.List.{length-take, length-drop}
use Rattle.back_history.proofs.Cells.{cell}
use Rattle.output_record.specs.Marks.{marks-none}
use Rattle.commit_outlook.specs.Look.{take-yes, take_no}
use Rattle.commit_outlook.proofs.take.take_history.Goals as goal
use Rattle.commit_outlook.proofs.take.take_history.Goals.{After-slot-q, then-is_fresh, else-is_fresh}

-- the place is the one at position low + k
at : (c : After-slot-q) → c.slot-q.result ≡ get_or c.args.order.now (c.args.low + c.loop-word.word-index) 0
at c = cell c.args.order.now c.args.low c.args.high c.loop-word.word-index c.slot-q.result c.loop-word-test.true c.slot-q.ensures

-- and there is such a place
within : (c : After-slot-q) → c.slot-q.result < length c.args.order.now
within c = let h = c.requires.range.4 (c.args.low + c.loop-word.word-index) (omega (arith, length-take {A = ℕ})) in omega (arith, at c, h)

pub loop-word-init : goal.loop-word-init
loop-word-init c = (c.requires.taken_len, rw add-zero (marks-none _ _ _ _))

pub is_fresh-requires : goal.is_fresh-requires
is_fresh-requires c = let h = within c in let r = c.requires.range in (omega (arith, h, r.2), omega (arith, h, r.3))

pub loop-word-preserved : goal.loop-word-preserved
loop-word-preserved c =
    let a = c.args in
    let l = c.loop-word in
    let r = c.requires.range in
    let i = a.low + l.word-index in
    let is = c.is_fresh.ensures in
    let at = cell a.order.now a.low a.high l.word-index c.slot-q.result c.loop-word-test.true c.slot-q.ensures in
    let lt = r.4 i (omega (arith, length-take {A = ℕ})) in
    let next : a.low + (l.word-index + 1) ≡ a.low + l.word-index + 1 = omega arith in
    elim c.if-is_fresh.branch [ then-is_fresh w ↦ (ap length w.taken-is ∙ (length-set l.taken _ _ ∙ l.invariant.0), rw next (take-yes _ _ _ _ _ _ _ i _ l.invariant.1 at _ is (omega arith) (omega (arith, l.invariant.0, at, lt, r.2)) (omega (arith, at, lt, r.3)) w.if-is_fresh.true w.taken-is)) | else-is_fresh w ↦ (ap length w.taken-is ∙ l.invariant.0, rw next (take_no _ _ _ _ _ _ _ i _ l.invariant.1 at _ is w.if-is_fresh.false w.taken-is)) ]

pub returns : goal.returns
returns c =
    let l = c.loop-word in
    let a = c.args in
    let e : a.low + l.word-index ≡ a.high = omega (arith, length-take {A = ℕ}, length-drop {A = ℕ}) in
    record { words = rw e at l.invariant.1; places = l.invariant.0 }
