use Rattle.models.specs.Digest.{Fit}
use Rattle.inspector_answer.specs.AllFaults.{tables_ready, order_ready, rounds_fit, events_ready, events-told}
use Rattle.inspector_answer.proofs.faults.emit_fault_events.Goals as goal

pub emit_fault_rounds-requires : goal.emit_fault_rounds-requires
emit_fault_rounds-requires c =
    let a = c.args in
    let p = c.requires in
    let fk : Fit a.dag.now.keys.now = a.dag.now.keys_fit in
    let fl : Fit a.dag.now.links.now = a.dag.now.links_fit in
    let d = c.minus-rounds.ensures in
    record { keys_len = tables_ready a.dag.now.state.now a.dag.now.keys.now a.dag.now.links.now a.dag.now.certs.now a.dag.now.order.now fk fl p.order_value; sorted = order_ready a.dag.now.state.now a.dag.now.keys.now a.dag.now.links.now a.dag.now.certs.now a.dag.now.order.now fk fl p.order_value; by_index = rounds_fit a.dag.now.state.now a.dag.now.keys.now a.dag.now.links.now a.dag.now.certs.now a.dag.now.order.now fk fl p.order_value a.first.0 a.low.0 _ p.first_value.0 d p.first_value.1; ready = events_ready a.dag.now.state.now a.dag.now.keys.now a.dag.now.links.now a.dag.now.certs.now a.dag.now.order.now fk fl p.order_value a.first.0 a.low.0 _ p.first_value.0 d _ _ _ a.fault p.ready }

pub returns : goal.returns
returns c =
    let a = c.args in
    let p = c.requires in
    let fk : Fit a.dag.now.keys.now = a.dag.now.keys_fit in
    let fl : Fit a.dag.now.links.now = a.dag.now.links_fit in
    events-told a.dag.now.state.now a.dag.now.keys.now a.dag.now.links.now a.dag.now.certs.now a.dag.now.order.now fk fl p.order_value a.first.0 a.low.0 _ p.first_value.0 c.minus-rounds.ensures _ _ _ a.fault _ _ c.emit_fault_rounds.ensures
