use Rattle.models.specs.Digest.{Fit}
use Rattle.commit_state.specs.View.{record_of}
use Rattle.inspector_inspect.specs.Filled.{positions_ready, trusted_ready}
use Rattle.inspector_inspect.specs.Inspected.{retained_low, counters_are}
use Rattle.inspector_inspect.proofs.inspect.round_counters.Goals as goal

pub span_at-span-requires : goal.span_at-span-requires
span_at-span-requires c =
    let a = c.args in
    let p = c.requires in
    let fk : Fit a.dag.now.keys.now = a.dag.now.keys_fit in
    let fl : Fit a.dag.now.links.now = a.dag.now.links_fit in
    let told = positions_ready a.dag.now.state.now a.dag.now.keys.now a.dag.now.links.now a.dag.now.certs.now a.dag.now.order.now fk fl p.order_value a.round.0 (retained_low a.dag.now.state.now a.dag.now.keys.now a.dag.now.links.now a.dag.now.certs.now a.dag.now.order.now fk fl p.order_value a.round.0 p.bottom_le_round.1) in record { keys_len = told.0; sorted = told.1 }

pub round_counts-counts-requires : goal.round_counts-counts-requires
round_counts-counts-requires c =
    let a = c.args in
    let p = c.requires in
    let fk : Fit a.dag.now.keys.now = a.dag.now.keys_fit in
    let fl : Fit a.dag.now.links.now = a.dag.now.links_fit in
    let (x, y) = trusted_ready a.dag.now.state.now a.dag.now.keys.now a.dag.now.links.now a.dag.now.certs.now a.dag.now.order.now fk fl p.order_value a.round.0 c.span_at-span.result c.span_at-span.ensures in
    record { range = x; keys_len = y.0 }

pub returns : goal.returns
unfolding record_of
returns c =
    let a = c.args in
    let p = c.requires in
    let fk : Fit a.dag.now.keys.now = a.dag.now.keys_fit in
    let fl : Fit a.dag.now.links.now = a.dag.now.links_fit in
    counters_are a.dag.now.state.now a.dag.now.keys.now a.dag.now.links.now a.dag.now.certs.now a.dag.now.order.now fk fl p.order_value a.round.0 p.bottom_le_round.0 p.bottom_le_round.1 _ c.span_at-span.ensures _ c.round_counts-counts.ensures _ _ _ p.skips _ c.counters_of.ensures
