use Rattle.models.specs.Digest.{Fit}
use Rattle.dag_round_points.specs.Tests.{ready}
use Rattle.dag_round_points.specs.Words.{id_fit}
use Rattle.back_walk.specs.Refines.{walkable, linked}
use Rattle.back_chain.specs.Refines.{none-few, trigger_in, of_below, of_refused, of_trigger, of_none, of_chain, of_ready}
use Rattle.std.proofs.lemmas.Result.{err_from_is_err_and}
use Rattle.back_chain.proofs.chain_of.Goals as goal

pub returns-then-below_bottom : goal.returns-then-below_bottom
returns-then-below_bottom c =
    let a = c.args in
    let fk : Fit a.dag.now.keys.now = a.dag.now.keys_fit in
    let fl : Fit a.dag.now.links.now = a.dag.now.links_fit in
    let fi = id_fit a.id _ c.well_formed.1.0 in
    record { result_value = of_below a.dag.now.state.now a.dag.now.keys.now a.dag.now.links.now a.dag.now.certs.now a.dag.now.order.now fk fl c.requires a.id fi _ c.below_bottom.ensures c.if-below_bottom.true _ c.no_anchors.ensures; count_bound = none-few _ c.no_anchors.ensures }

pub find_named-requires : goal.find_named-requires
find_named-requires c =
    let a = c.args in
    let fk : Fit a.dag.now.keys.now = a.dag.now.keys_fit in
    let fl : Fit a.dag.now.links.now = a.dag.now.links_fit in
    ready a.dag.now.state.now a.dag.now.keys.now a.dag.now.links.now a.dag.now.certs.now a.dag.now.order.now fk fl c.requires

pub filter-requires : goal.filter-requires
filter-requires c =
    let a = c.args in
    let fk : Fit a.dag.now.keys.now = a.dag.now.keys_fit in
    let fl : Fit a.dag.now.links.now = a.dag.now.links_fit in
    let fi = id_fit a.id _ c.well_formed.1.0 in
    trigger_in a.dag.now.state.now a.dag.now.keys.now a.dag.now.links.now a.dag.now.certs.now a.dag.now.order.now fk fl c.requires a.id fi _ c.below_bottom.ensures c.if-below_bottom.false _ c.find_named.ensures _ c.in_ok-q.was

pub returns-in_err-filter : goal.returns-in_err-filter
returns-in_err-filter c =
    let a = c.args in
    let fk : Fit a.dag.now.keys.now = a.dag.now.keys_fit in
    let fl : Fit a.dag.now.links.now = a.dag.now.links_fit in
    let fi = id_fit a.id _ c.well_formed.1.0 in
    let p = err_from_is_err_and c.from_residual-in_err-filter.result c.from_residual-in_err-filter.ensures.1 in
    rw (p.1, p.2) (record { result_value = of_trigger a.dag.now.state.now a.dag.now.keys.now a.dag.now.links.now a.dag.now.certs.now a.dag.now.order.now fk fl c.requires a.id fi _ c.below_bottom.ensures c.if-below_bottom.false _ c.find_named.ensures _ c.in_ok-q.was _ c.filter.ensures _ c.in_err-filter.was; count_bound = tt })

pub has_walk-requires : goal.has_walk-requires
has_walk-requires c =
    let a = c.args in
    let fk : Fit a.dag.now.keys.now = a.dag.now.keys_fit in
    let fl : Fit a.dag.now.links.now = a.dag.now.links_fit in
    let fi = id_fit a.id _ c.well_formed.1.0 in
    (trigger_in a.dag.now.state.now a.dag.now.keys.now a.dag.now.links.now a.dag.now.certs.now a.dag.now.order.now fk fl c.requires a.id fi _ c.below_bottom.ensures c.if-below_bottom.false _ c.find_named.ensures _ c.in_ok-q.was).0

pub returns-then-not-has_walk : goal.returns-then-not-has_walk
returns-then-not-has_walk c =
    let a = c.args in
    let fk : Fit a.dag.now.keys.now = a.dag.now.keys_fit in
    let fl : Fit a.dag.now.links.now = a.dag.now.links_fit in
    let fi = id_fit a.id _ c.well_formed.1.0 in
    record { result_value = of_none a.dag.now.state.now a.dag.now.keys.now a.dag.now.links.now a.dag.now.certs.now a.dag.now.order.now fk fl c.requires a.id fi _ c.below_bottom.ensures c.if-below_bottom.false _ c.find_named.ensures _ c.in_ok-q.was _ c.filter.ensures c.in_ok-filter.was _ c.lowest_walked-low.ensures _ c.has_walk.ensures c.if-not-has_walk.true-raw _ c.no_anchors-then-not-has_walk.ensures; count_bound = none-few _ c.no_anchors-then-not-has_walk.ensures }

pub chain_from-requires : goal.chain_from-requires
chain_from-requires c =
    let a = c.args in
    let fk : Fit a.dag.now.keys.now = a.dag.now.keys_fit in
    let fl : Fit a.dag.now.links.now = a.dag.now.links_fit in
    let fi = id_fit a.id _ c.well_formed.1.0 in
    let w = of_ready a.dag.now.state.now a.dag.now.keys.now a.dag.now.links.now a.dag.now.certs.now a.dag.now.order.now fk fl c.requires a.id fi _ c.below_bottom.ensures c.if-below_bottom.false _ c.find_named.ensures _ c.in_ok-q.was _ c.filter.ensures c.in_ok-filter.was _ c.lowest_walked-low.ensures _ c.has_walk.ensures c.if-not-has_walk.false-raw in
    record { walkable = walkable a.dag.now.state.now a.dag.now.keys.now a.dag.now.links.now a.dag.now.certs.now a.dag.now.order.now fk fl c.requires; linked = linked a.dag.now.state.now a.dag.now.keys.now a.dag.now.links.now a.dag.now.certs.now a.dag.now.order.now fk fl c.requires; used = w.0; low_lt_round = w.1 }

pub returns-in_err-q : goal.returns-in_err-q
returns-in_err-q c =
    let a = c.args in
    let fk : Fit a.dag.now.keys.now = a.dag.now.keys_fit in
    let fl : Fit a.dag.now.links.now = a.dag.now.links_fit in
    let fi = id_fit a.id _ c.well_formed.1.0 in
    let p = err_from_is_err_and c.from_residual.result c.from_residual.ensures.1 in
    rw (p.1, p.2) (record { result_value = of_refused a.dag.now.state.now a.dag.now.keys.now a.dag.now.links.now a.dag.now.certs.now a.dag.now.order.now fk fl c.requires a.id fi _ c.below_bottom.ensures c.if-below_bottom.false _ c.find_named.ensures _ c.in_err-q.was; count_bound = tt })

pub returns : goal.returns
returns c =
    let a = c.args in
    let fk : Fit a.dag.now.keys.now = a.dag.now.keys_fit in
    let fl : Fit a.dag.now.links.now = a.dag.now.links_fit in
    let fi = id_fit a.id _ c.well_formed.1.0 in
    record { result_value = of_chain a.dag.now.state.now a.dag.now.keys.now a.dag.now.links.now a.dag.now.certs.now a.dag.now.order.now fk fl c.requires a.id fi _ c.below_bottom.ensures c.if-below_bottom.false _ c.find_named.ensures _ c.in_ok-q.was _ c.filter.ensures c.in_ok-filter.was _ c.lowest_walked-low.ensures _ c.has_walk.ensures c.if-not-has_walk.false-raw _ c.chain_from.ensures.result_value; count_bound = c.chain_from.ensures.count_bound }
