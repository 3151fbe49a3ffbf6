use Rattle.std.proofs.Common.{ℕ, ◌+◌, ◌<◌, ◌≡◌, ◌≤◌, length, arith, refl, sym, ◌∙◌, add-zero}
use Rattle.std.proofs.lemmas.List.{length-take, length-drop}
use Rattle.models.specs.Digest.{Fit}
use Rattle.back_history.proofs.Cells.{cell}
use Rattle.output_record.specs.Sums.{len_small, sum-none, sum-yes, sum_no}
use Rattle.output_record.proofs.sums.payload_sums.Goals as goal
use Rattle.output_record.proofs.sums.payload_sums.Goals.{then-is_uncommitted, else-is_uncommitted}

pub loop-word-init : goal.loop-word-init
loop-word-init c = rw add-zero (sum-none _ _ _ _, sum-none _ _ _ _)

pub is_uncommitted-requires : goal.is_uncommitted-requires
is_uncommitted-requires c =
    let a = c.args in
    let at = cell a.dag.now.order.now a.low a.high c.loop-word.word-index c.slot-q.result c.loop-word-test.true c.slot-q.ensures in
    let h = c.requires.5 (a.low + c.loop-word.word-index) (omega (arith, length-take {A = ℕ})) in
    let within : c.slot-q.result < length a.dag.now.certs.now = omega (arith, at, h) in
    (omega (arith, within, c.requires.3), within)

pub loop-word-preserved : goal.loop-word-preserved
loop-word-preserved c =
    let a = c.args in
    let l = c.loop-word in
    let i = a.low + l.word-index in
    let is = c.is_uncommitted.ensures in
    let q = c.slot-q.result in
    let at = cell a.dag.now.order.now a.low a.high l.word-index c.slot-q.result c.loop-word-test.true c.slot-q.ensures in
    let fl : Fit a.dag.now.links.now = a.dag.now.links_fit in
    let next : a.low + (l.word-index + 1) ≡ a.low + l.word-index + 1 = omega arith in
    let low : a.low ≤ i = omega arith in
    rw next (elim c.if-is_uncommitted.branch [ then-is_uncommitted w ↦ (sum-yes _ _ _ _ i _ q l.invariant.0 low at (sym is ∙ w.if-is_uncommitted.true) (len_small a.dag.now.links.now q _ fl refl) _ (omega (arith, w.len-is, w.payload-payload.ensures)), sum-yes _ _ _ _ i _ q l.invariant.1 low at (sym is ∙ w.if-is_uncommitted.true) (omega arith) _ (omega (arith, w.bytes-is, w.payload-payload.ensures))) | else-is_uncommitted w ↦ (rw w.len-is (sum_no _ _ _ _ i _ q l.invariant.0 low at (sym is ∙ w.if-is_uncommitted.false)), rw w.bytes-is (sum_no _ _ _ _ i _ q l.invariant.1 low at (sym is ∙ w.if-is_uncommitted.false))) ])

pub returns : goal.returns
returns c =
    let l = c.loop-word in
    let a = c.args in
    let e : a.low + l.word-index ≡ a.high = omega (arith, length-take {A = ℕ}, length-drop {A = ℕ}) in
    (rw e at l.invariant.0.0, rw e at l.invariant.1.0)
