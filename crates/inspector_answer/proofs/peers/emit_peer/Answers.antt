use native.Mathlib.Omega.{arith}
use Rattle.inspector_answer.specs.Peers.{peer-none, peer-number, peer-first, peer_last, peer_counters, peer-score, peer_sent}
use Rattle.inspector_answer.proofs.peers.emit_peer.Goals as goal

pub returns-then-stats-eq0 : goal.returns-then-stats-eq0
returns-then-stats-eq0 c = peer-none _ _ _ _ c.args.stats c.if-stats-eq0.true

pub emit_number-first-requires : goal.emit_number-first-requires
emit_number-first-requires c =
    let p = c.requires in
    let t = c.args.stats in
    let d = c.if-stats-eq0.false in
    (peer-number _ _ _ _ t d p, omega arith)

pub emit_number-last-requires : goal.emit_number-last-requires
emit_number-last-requires c =
    let p = c.requires in
    let t = c.args.stats in
    let d = c.if-stats-eq0.false in
    (peer-first _ _ _ _ t d p _ _ c.emit_number-first.ensures, omega arith)

pub emit_number-counts-requires : goal.emit_number-counts-requires
emit_number-counts-requires c =
    let p = c.requires in
    let t = c.args.stats in
    let d = c.if-stats-eq0.false in
    (peer_last _ _ _ _ t d p _ _ c.emit_number-first.ensures _ _ c.emit_number-last.ensures, omega arith)

pub emit_counters-end-requires : goal.emit_counters-end-requires
emit_counters-end-requires c =
    let p = c.requires in
    let t = c.args.stats in
    let d = c.if-stats-eq0.false in
    peer_counters _ _ _ _ t d p _ _ c.emit_number-first.ensures _ _ c.emit_number-last.ensures _ _ c.emit_number-counts.ensures

pub emit_number-requires : goal.emit_number-requires
emit_number-requires c =
    let p = c.requires in
    let t = c.args.stats in
    let d = c.if-stats-eq0.false in
    (peer-score _ _ _ _ t d p _ _ c.emit_number-first.ensures _ _ c.emit_number-last.ensures _ _ c.emit_number-counts.ensures _ _ c.emit_counters-end.ensures, omega arith)

pub returns : goal.returns
returns c =
    let p = c.requires in
    let t = c.args.stats in
    let d = c.if-stats-eq0.false in
    peer_sent _ _ _ _ t d p _ _ c.emit_number-first.ensures _ _ c.emit_number-last.ensures _ _ c.emit_number-counts.ensures _ _ c.emit_counters-end.ensures _ _ _ c.score-score.ensures c.emit_number.ensures
