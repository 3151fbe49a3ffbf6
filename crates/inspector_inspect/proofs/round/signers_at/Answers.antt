use Rattle.models.specs.Digest.{Fit}
use Rattle.inspector_inspect.specs.Owed.{owed_ready, owed_is}
use Rattle.inspector_inspect.proofs.round.signers_at.Goals as goal

pub not_referenced-requires : goal.not_referenced-requires
not_referenced-requires c =
    let a = c.args in
    let p = c.requires in
    let fk : Fit a.dag.now.keys.now = a.dag.now.keys_fit in
    let fl : Fit a.dag.now.links.now = a.dag.now.links_fit in
    let told = owed_ready a.dag.now.state.now a.dag.now.keys.now a.dag.now.links.now a.dag.now.certs.now a.dag.now.order.now fk fl p.order_value a.round.0 a.places.now a.m p.listed a.rows.now a.n p.rows_before.0 p.rows_before.1 in record { m_in_bounds = told.0; by_index = told.1.0; by_index_2 = told.1.1 }

pub returns : goal.returns
returns c =
    let a = c.args in
    let p = c.requires in
    let fk : Fit a.dag.now.keys.now = a.dag.now.keys_fit in
    let fl : Fit a.dag.now.links.now = a.dag.now.links_fit in
    owed_is a.dag.now.state.now a.dag.now.keys.now a.dag.now.links.now a.dag.now.certs.now a.dag.now.order.now fk fl p.order_value a.round.0 a.places.now a.m p.listed a.rows.now a.n p.rows_before.0 _ _ c.last_before-last.ensures c.prev-below.ensures _ _ c.not_referenced.ensures
