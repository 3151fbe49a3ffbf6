use native.Mathlib.Omega.{arith}
use Rattle.models.specs.Digest.{Fit}
use Rattle.back_history.specs.Supposing.{supposing}
use Rattle.back_committable.specs.Model.{gathered_of, anchor-words}
use Rattle.commit_outlook.specs.Look.{look-sorted, look_range, look-round, look-tables, gathered_next, gathered_holds, gathered_bytes, gathered_took}
use Rattle.commit_outlook.proofs.look.put_look.Goals as goal

pub round_at-round-requires : goal.round_at-round-requires
round_at-round-requires c =
    let a = c.args in
    let p = c.requires in
    anchor-words a.dag.now.state.now a.dag.now.keys.now a.dag.now.links.now a.dag.now.certs.now a.dag.now.order.now p.started a.e.anchor p.used.0

pub gather_history-g-requires : goal.gather_history-g-requires
gather_history-g-requires c = let p = c.requires in record { started = p.started; used = p.used.0 }

pub put_id-m-requires : goal.put_id-m-requires
put_id-m-requires c =
    let a = c.args in
    let p = c.requires in
    let r = c.round_at-round in
    let g = c.gather_history-g in
    let room = gathered_holds a.dag.now.keys.now a.dag.now.order.now a.e.anchor a.dag.now.state.now.count g.result (gathered_of a.dag.now.state.now a.dag.now.keys.now a.dag.now.links.now (supposing a.taken.now a.dag.now.certs.now) a.dag.now.order.now a.e.anchor) g.ensures r.result.0 r.ensures a.at a.b.now p.anchor_in_bounds in
    (omega (arith, room), (anchor-words a.dag.now.state.now a.dag.now.keys.now a.dag.now.links.now a.dag.now.certs.now a.dag.now.order.now p.started a.e.anchor p.used.0).0)

pub put_number-c-requires : goal.put_number-c-requires
put_number-c-requires c =
    let a = c.args in
    let p = c.requires in
    let r = c.round_at-round in
    let g = c.gather_history-g in
    let room = gathered_holds a.dag.now.keys.now a.dag.now.order.now a.e.anchor a.dag.now.state.now.count g.result (gathered_of a.dag.now.state.now a.dag.now.keys.now a.dag.now.links.now (supposing a.taken.now a.dag.now.certs.now) a.dag.now.order.now a.e.anchor) g.ensures r.result.0 r.ensures a.at a.b.now p.anchor_in_bounds in
    omega (arith, room, c.put_id-m.ensures.0)

pub put_counts-end-requires : goal.put_counts-end-requires
put_counts-end-requires c =
    let a = c.args in
    let p = c.requires in
    let r = c.round_at-round in
    let g = c.gather_history-g in
    let room = gathered_holds a.dag.now.keys.now a.dag.now.order.now a.e.anchor a.dag.now.state.now.count g.result (gathered_of a.dag.now.state.now a.dag.now.keys.now a.dag.now.links.now (supposing a.taken.now a.dag.now.certs.now) a.dag.now.order.now a.e.anchor) g.ensures r.result.0 r.ensures a.at a.b.now p.anchor_in_bounds in
    record { keys_len = look-tables a.dag.now.state.now a.dag.now.keys.now a.dag.now.links.now a.dag.now.certs.now a.dag.now.order.now p.started a.e.anchor p.used.0 r.result.0 r.ensures; sorted = (look-sorted a.dag.now.state.now a.dag.now.keys.now a.dag.now.links.now a.dag.now.certs.now a.dag.now.order.now p.started a.e.anchor p.used.0, look-round a.dag.now.state.now a.dag.now.keys.now a.dag.now.links.now a.dag.now.certs.now a.dag.now.order.now p.started a.e.anchor p.used.0 r.result.0 r.ensures, omega (arith, room, c.put_id-m.ensures.0, c.put_number-c.ensures.0)) }

pub take_history-requires : goal.take_history-requires
take_history-requires c =
    let a = c.args in
    let p = c.requires in
    let fk : Fit a.dag.now.keys.now = a.dag.now.keys_fit in
    let fl : Fit a.dag.now.links.now = a.dag.now.links_fit in
    let g = c.gather_history-g in
    record { range = look_range a.dag.now.state.now a.dag.now.keys.now a.dag.now.links.now a.dag.now.certs.now a.dag.now.order.now p.started a.e.anchor p.used.0 fk fl (supposing a.taken.now a.dag.now.certs.now) g.result g.ensures; taken_len = p.used.1 }

pub returns : goal.returns
returns c =
    let a = c.args in
    let p = c.requires in
    let r = c.round_at-round in
    let g = c.gather_history-g in
    let i = c.put_id-m.ensures in
    let n = c.put_number-c.ensures in
    let k = c.put_counts-end.ensures in record { next = gathered_next a.dag.now.keys.now a.dag.now.order.now a.e.anchor a.dag.now.state.now.count g.result (gathered_of a.dag.now.state.now a.dag.now.keys.now a.dag.now.links.now (supposing a.taken.now a.dag.now.certs.now) a.dag.now.order.now a.e.anchor) g.ensures r.result.0 r.ensures a.at _ _ _ i.0 n.0 k.next; bytes = gathered_bytes a.dag.now.keys.now a.dag.now.order.now a.e.anchor a.dag.now.state.now.count g.result (gathered_of a.dag.now.state.now a.dag.now.keys.now a.dag.now.links.now (supposing a.taken.now a.dag.now.certs.now) a.dag.now.order.now a.e.anchor) g.ensures r.result.0 r.ensures a.b.now _ _ _ a.at _ _ i.0 i.1 n.0 n.1 k.bytes; took = gathered_took a.dag.now.keys.now a.dag.now.order.now a.e.anchor a.dag.now.state.now.count g.result (gathered_of a.dag.now.state.now a.dag.now.keys.now a.dag.now.links.now (supposing a.taken.now a.dag.now.certs.now) a.dag.now.order.now a.e.anchor) g.ensures r.result.0 r.ensures a.dag.now.certs.now a.taken.now _ (c.take_history.ensures.words, c.take_history.ensures.places) }
