use Rattle.inspector_answer.specs.AllFaults.{ready_trans_invalid, ready_invalid, ready_ill_formed, ready_equivocated, faults-told}
use Rattle.inspector_answer.proofs.faults.emit_all_faults.Goals as goal

pub emit_fault_events-e-requires : goal.emit_fault_events-e-requires
emit_fault_events-e-requires c = let p = c.requires in record { order_value = p.order_value; first_value = p.first_value; ready = ready_trans_invalid _ _ _ _ _ p.ready }

pub emit_fault_events-e-requires-2 : goal.emit_fault_events-e-requires-2
emit_fault_events-e-requires-2 c = let p = c.requires in record { order_value = p.order_value; first_value = p.first_value; ready = ready_invalid _ _ _ _ _ p.ready _ _ c.emit_fault_events-e.ensures }

pub emit_fault_events-e-requires-3 : goal.emit_fault_events-e-requires-3
emit_fault_events-e-requires-3 c = let p = c.requires in record { order_value = p.order_value; first_value = p.first_value; ready = ready_ill_formed _ _ _ _ _ p.ready _ _ c.emit_fault_events-e.ensures _ _ c.emit_fault_events-e-2.ensures }

pub emit_fault_events-requires : goal.emit_fault_events-requires
emit_fault_events-requires c = let p = c.requires in record { order_value = p.order_value; first_value = p.first_value; ready = ready_equivocated _ _ _ _ _ p.ready _ _ c.emit_fault_events-e.ensures _ _ c.emit_fault_events-e-2.ensures _ _ c.emit_fault_events-e-3.ensures }

pub returns : goal.returns
returns c = faults-told _ _ _ _ _ c.requires.ready _ _ c.emit_fault_events-e.ensures _ _ c.emit_fault_events-e-2.ensures _ _ c.emit_fault_events-e-3.ensures _ _ c.emit_fault_events.ensures
