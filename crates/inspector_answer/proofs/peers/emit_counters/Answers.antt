use native.Mathlib.Omega.{arith}
use Rattle.laws.specs.Bytes.{be-length}
use Rattle.inspector_events.specs.Told.{open_all}
use Rattle.inspector_answer.specs.Peers.{lists-none, lists-more, lists_end, lists_open, counters_open, counters_sent}
use Rattle.inspector_answer.proofs.peers.emit_counters.Goals as goal

pub loop-count-init : goal.loop-count-init
loop-count-init c = lists-none _ _ _ _

pub emit_number-out-requires : goal.emit_number-out-requires
emit_number-out-requires c =
    let l = c.loop-count in
    let p = c.requires in
    (open_all _ _ _ _ 2 (be-length 2 _) (lists_open _ _ _ _ l.count-index _ _ l.invariant _ c.loop-count-test.true (counters_open _ _ c.counts-counts.ensures _ _ _ p)), omega arith)

pub loop-count-preserved : goal.loop-count-preserved
loop-count-preserved c = lists-more _ _ _ _ _ _ _ c.loop-count.invariant _ _ c.emit_number-out.ensures

pub returns : goal.returns
returns c = counters_sent _ _ c.counts-counts.ensures _ _ _ _ _ (lists_end _ _ _ _ _ _ _ c.loop-count.invariant _ (omega arith))
