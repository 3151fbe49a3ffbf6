use mathlib.Core.Path.{refl}
use Rattle.models.specs.Digest.{Fit}
use Rattle.inspector_inspect.specs.Report.{send_ready}
use Rattle.inspector_inspect.specs.Inspected.{retained_low, reported_skips, count_ready, inspected_is}
use Rattle.inspector_inspect.proofs.inspect.inspect.Goals as goal

pub report-x-requires : goal.report-x-requires
report-x-requires c =
    let a = c.args in
    let p = c.requires in
    let fk : Fit a.dag.now.keys.now = a.dag.now.keys_fit in
    let fl : Fit a.dag.now.links.now = a.dag.now.links_fit in
    record { order_value = p.order_value; round_bound = (retained_low a.dag.now.state.now a.dag.now.keys.now a.dag.now.links.now a.dag.now.certs.now a.dag.now.order.now fk fl p.order_value a.round.0 p.bottom_le_round.1, p.bottom_le_round.2) }

pub round_counters-counters-requires : goal.round_counters-counters-requires
round_counters-counters-requires c =
    let a = c.args in
    let p = c.requires in
    let fk : Fit a.dag.now.keys.now = a.dag.now.keys_fit in
    let fl : Fit a.dag.now.links.now = a.dag.now.links_fit in
    let x = c.report-x in
    record { order_value = p.order_value; bottom_le_round = (p.bottom_le_round.0, p.bottom_le_round.1, (send_ready a.dag.now.state.now a.dag.now.keys.now a.dag.now.links.now a.dag.now.certs.now a.dag.now.order.now fk fl p.order_value a.round.0 _ x.result x.ensures).1.1, x.ensures.rows.few); skips = reported_skips a.dag.now.state.now a.dag.now.keys.now a.dag.now.links.now a.dag.now.certs.now a.dag.now.order.now fk fl p.order_value a.round.0 _ x.result x.ensures }

pub emit_reported-owed-requires : goal.emit_reported-owed-requires
emit_reported-owed-requires c =
    let a = c.args in
    let p = c.requires in
    let fk : Fit a.dag.now.keys.now = a.dag.now.keys_fit in
    let fl : Fit a.dag.now.links.now = a.dag.now.links_fit in
    let x = c.report-x in
    record { order_value = p.order_value; reported = x.ensures; ready = count_ready a.dag.now.state.now a.dag.now.keys.now a.dag.now.links.now a.dag.now.certs.now a.dag.now.order.now fk fl p.order_value a.round.0 _ x.result x.ensures a.b.now _ refl refl }

pub returns : goal.returns
returns c =
    let a = c.args in
    let p = c.requires in
    let fk : Fit a.dag.now.keys.now = a.dag.now.keys_fit in
    let fl : Fit a.dag.now.links.now = a.dag.now.links_fit in
    let x = c.report-x in
    inspected_is a.dag.now.state.now a.dag.now.keys.now a.dag.now.links.now a.dag.now.certs.now a.dag.now.order.now fk fl p.order_value a.round.0 _ x.result x.ensures a.b.now _ refl refl _ _ c.emit_reported-owed.ensures _ c.round_counters-counters.ensures
