use native.Mathlib.Omega.{arith}
use Rattle.inspector_answer.specs.Peers.{lists-none, lists-more, lists_end, lists_open, with_ones, peers_first, peers_open, peers_sent}
use Rattle.inspector_answer.proofs.peers.emit_stats.Goals as goal

pub loop-k-init : goal.loop-k-init
loop-k-init c = lists-none _ _ _ _

pub emit_number-out-requires : goal.emit_number-out-requires
emit_number-out-requires c = (peers_first _ _ _ _ _ (with_ones _ _ _ c.peers_with_stats.ensures c.peer_count-peers.ensures) c.requires, omega arith)

pub emit_peer-out-requires : goal.emit_peer-out-requires
emit_peer-out-requires c =
    let l = c.loop-k in
    let o = peers_open _ _ _ _ _ (with_ones _ _ _ c.peers_with_stats.ensures c.peer_count-peers.ensures) _ _ c.emit_number-out.ensures c.requires in
    lists_open _ _ _ _ l.k _ _ l.invariant _ c.loop-k-test.true o

pub loop-k-preserved : goal.loop-k-preserved
loop-k-preserved c = lists-more _ _ _ _ _ _ _ c.loop-k.invariant _ _ c.emit_peer-out.ensures

pub returns : goal.returns
returns c =
    peers_sent _ _ _ _ _ (with_ones _ _ _ c.peers_with_stats.ensures c.peer_count-peers.ensures) _ _ c.emit_number-out.ensures _ _
    (lists_end _ _ _ _ _ _ _ c.loop-k.invariant _ (omega arith))
