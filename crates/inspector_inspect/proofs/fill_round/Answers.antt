use Rattle.models.specs.Digest.{Fit}
use Rattle.inspector_inspect.specs.Filled.{positions_ready, trusted_ready, trusted_here, must_ready, round_rows_lem}
use Rattle.inspector_inspect.proofs.fill_round.Goals as goal

pub span_at-span-requires : goal.span_at-span-requires
span_at-span-requires c =
    let a = c.args in
    let p = c.requires in
    let fk : Fit a.dag.now.keys.now = a.dag.now.keys_fit in
    let fl : Fit a.dag.now.links.now = a.dag.now.links_fit in
    let told = positions_ready a.dag.now.state.now a.dag.now.keys.now a.dag.now.links.now a.dag.now.certs.now a.dag.now.order.now fk fl p.order_value a.round.0 p.round_bound.0 in record { keys_len = told.0; sorted = told.1 }

pub trusted_places-trusted-requires : goal.trusted_places-trusted-requires
trusted_places-trusted-requires c =
    let a = c.args in
    let p = c.requires in
    let fk : Fit a.dag.now.keys.now = a.dag.now.keys_fit in
    let fl : Fit a.dag.now.links.now = a.dag.now.links_fit in
    let told = trusted_ready a.dag.now.state.now a.dag.now.keys.now a.dag.now.links.now a.dag.now.certs.now a.dag.now.order.now fk fl p.order_value a.round.0 c.span_at-span.result c.span_at-span.ensures in record { range = told.0; keys_len = told.1 }

pub must_reference-requires : goal.must_reference-requires
must_reference-requires c =
    let a = c.args in
    let p = c.requires in
    let fk : Fit a.dag.now.keys.now = a.dag.now.keys_fit in
    let fl : Fit a.dag.now.links.now = a.dag.now.links_fit in
    let x = c.span_at-span in
    let y = c.trusted_places-trusted in
    let told = must_ready a.dag.now.state.now a.dag.now.keys.now a.dag.now.links.now a.dag.now.certs.now a.dag.now.order.now fk fl p.order_value a.round.0 y.result.places y.result.count (trusted_here a.dag.now.state.now a.dag.now.keys.now a.dag.now.links.now a.dag.now.certs.now a.dag.now.order.now fk fl p.order_value a.round.0 x.result x.ensures y.result.places y.result.count y.ensures) a.rows.now p.round_bound.1 in record { n_in_bounds = told.0; by_index = told.1 }

pub returns : goal.returns
returns c =
    let a = c.args in
    let p = c.requires in
    let fk : Fit a.dag.now.keys.now = a.dag.now.keys_fit in
    let fl : Fit a.dag.now.links.now = a.dag.now.links_fit in
    let x = c.span_at-span in
    let y = c.trusted_places-trusted in
    round_rows_lem a.dag.now.state.now a.dag.now.keys.now a.dag.now.links.now a.dag.now.certs.now a.dag.now.order.now fk fl p.order_value a.round.0 y.result.places y.result.count (trusted_here a.dag.now.state.now a.dag.now.keys.now a.dag.now.links.now a.dag.now.certs.now a.dag.now.order.now fk fl p.order_value a.round.0 x.result x.ensures y.result.places y.result.count y.ensures) _ _ p.round_bound.1 c.must_reference.ensures
