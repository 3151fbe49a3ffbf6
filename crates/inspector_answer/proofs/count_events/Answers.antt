use mathlib.Core.Path.{refl}
use native.Mathlib.Omega.{arith}
use Rattle.models.specs.Digest.{Fit}
use Rattle.inspector_answer.specs.Answer.{count_ready, sums_fit, events-counted}
use Rattle.inspector_answer.proofs.count_events.Goals as goal

pub emit_all_faults-faults-requires : goal.emit_all_faults-faults-requires
emit_all_faults-faults-requires c =
    let a = c.args in
    let p = c.requires in
    let fk : Fit a.dag.now.keys.now = a.dag.now.keys_fit in
    let fl : Fit a.dag.now.links.now = a.dag.now.links_fit in
    record { order_value = p.order_value; first_value = p.first_value; ready = count_ready a.dag.now.state.now a.dag.now.keys.now a.dag.now.links.now a.dag.now.certs.now a.dag.now.order.now fk fl p.order_value a.low.0 p.first_value.1 _ _ refl refl }

pub overflow_add-result : goal.overflow_add-result
overflow_add-result c =
    let a = c.args in
    let p = c.requires in
    let fk : Fit a.dag.now.keys.now = a.dag.now.keys_fit in
    let fl : Fit a.dag.now.links.now = a.dag.now.links_fit in
    let l = sums_fit a.dag.now.state.now a.dag.now.keys.now a.dag.now.links.now a.dag.now.certs.now a.dag.now.order.now fk fl p.order_value a.low.0 p.first_value.1 _ _ _ _ refl refl c.emit_all_faults-faults.ensures a.owed p.owed_sizes in
    omega (arith, l.0)

pub overflow_add-result-2 : goal.overflow_add-result-2
overflow_add-result-2 c =
    let a = c.args in
    let p = c.requires in
    let fk : Fit a.dag.now.keys.now = a.dag.now.keys_fit in
    let fl : Fit a.dag.now.links.now = a.dag.now.links_fit in
    let l = sums_fit a.dag.now.state.now a.dag.now.keys.now a.dag.now.links.now a.dag.now.certs.now a.dag.now.order.now fk fl p.order_value a.low.0 p.first_value.1 _ _ _ _ refl refl c.emit_all_faults-faults.ensures a.owed p.owed_sizes in
    omega (arith, l.1)

pub returns : goal.returns
returns c =
    let a = c.args in
    let p = c.requires in
    let fk : Fit a.dag.now.keys.now = a.dag.now.keys_fit in
    let fl : Fit a.dag.now.links.now = a.dag.now.links_fit in
    events-counted a.dag.now.state.now a.dag.now.keys.now a.dag.now.links.now a.dag.now.certs.now a.dag.now.order.now fk fl p.order_value a.low.0 p.first_value.1 _ _ _ _ refl refl c.emit_all_faults-faults.ensures a.owed p.owed_sizes _ refl refl
