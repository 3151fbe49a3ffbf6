use Rattle.models.specs.Digest.{Fit}
use Rattle.inspector_inspect.specs.Report.{send_ready, owed_ready, owed_told}
use Rattle.inspector_inspect.proofs.round.emit_reported.Goals as goal

pub emit_signers-requires : goal.emit_signers-requires
emit_signers-requires c =
    let a = c.args in
    let p = c.requires in
    let fk : Fit a.dag.now.keys.now = a.dag.now.keys_fit in
    let fl : Fit a.dag.now.links.now = a.dag.now.links_fit in
    let (x, y) = send_ready a.dag.now.state.now a.dag.now.keys.now a.dag.now.links.now a.dag.now.certs.now a.dag.now.order.now fk fl p.order_value a.round.0 a.rows.now a.x p.reported in
    record { m_in_bounds = x; n_in_bounds = y; ready = owed_ready a.dag.now.state.now a.dag.now.keys.now a.dag.now.links.now a.dag.now.certs.now a.dag.now.order.now fk fl p.order_value a.round.0 a.rows.now a.x p.reported _ c.last_before-last.ensures a.write a.b.now a.e p.ready }

pub returns : goal.returns
returns c =
    let a = c.args in
    let p = c.requires in
    let fk : Fit a.dag.now.keys.now = a.dag.now.keys_fit in
    let fl : Fit a.dag.now.links.now = a.dag.now.links_fit in
    owed_told a.dag.now.state.now a.dag.now.keys.now a.dag.now.links.now a.dag.now.certs.now a.dag.now.order.now fk fl p.order_value a.round.0 a.rows.now a.x p.reported _ c.last_before-last.ensures a.write a.b.now a.e _ _ c.emit_signers.ensures
