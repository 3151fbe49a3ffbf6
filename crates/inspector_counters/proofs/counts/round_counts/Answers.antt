use Rattle.std.proofs.Common.{◌≡◌, ◌∙◌, ◌+◌, ◌-◌, ◌<◌, ℕ, List, get_or, take, drop, arith}
use Rattle.std.proofs.lemmas.List.{get_or-take, get_or-drop}
use Rattle.models.specs.Tables.{place_at}
use Rattle.inspector_counters.specs.Counts.{counted_start, counted-yes, counted_no, cell-few}
use Rattle.inspector_counters.proofs.counts.round_counts.Goals as goal
use Rattle.inspector_counters.proofs.counts.round_counts.Goals.{then-author-lt-PEERS_MAX, else-author-lt-PEERS_MAX}

-- the elements of a part of a list
item : (os : List ℕ) (low n j : ℕ) → j < n → get_or (take n (drop low os)) j 0 ≡ get_or os (low + j) 0
item os low n j l = get_or-take n (drop low os) j 0 l ∙ get_or-drop low os j 0

pub loop-point-init : goal.loop-point-init
loop-point-init c = counted_start _ _ _ _ _ c.new-counts.ensures

pub add-requires : goal.add-requires
add-requires c =
    let l = c.loop-point in
    let p = c.requires in
    cell-few _ _ _ _ l.point-index _ _ (omega (arith, c.loop-point-test.true, p.range.1, p.range.2)) (l.invariant.cells _ c.if-author-lt-PEERS_MAX.true)

pub loop-point-preserved : goal.loop-point-preserved
loop-point-preserved c =
    let inv = c.loop-point.invariant in
    let at : c.slot-q.result ≡ place_at c.args.order.now (c.args.low + c.loop-point.point-index) = c.slot-q.ensures ∙ item _ c.args.low (c.args.high - c.args.low) c.loop-point.point-index (omega arith) in
    let is = c.slot-author.ensures ∙ c.author.ensures in
    elim c.if-author-lt-PEERS_MAX.branch [ then-author-lt-PEERS_MAX w ↦ counted-yes _ _ _ _ _ _ at _ _ inv _ _ _ _ is w.if-author-lt-PEERS_MAX.true w.version_at-version.ensures w.inspect-passed.ensures w.add.ensures w.counts-is | else-author-lt-PEERS_MAX w ↦ counted_no _ _ _ _ _ _ at _ _ inv _ is w.if-author-lt-PEERS_MAX.false w.counts-is ]
