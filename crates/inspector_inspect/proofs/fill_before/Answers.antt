use Rattle.models.specs.Digest.{Fit}
use Rattle.inspector_inspect.specs.Filled.{memory_ready, memory_before, round-before}
use Rattle.inspector_inspect.proofs.fill_before.Goals as goal

pub rows_of-requires : goal.rows_of-requires
rows_of-requires c =
    let a = c.args in
    let p = c.requires in
    let fk : Fit a.dag.now.keys.now = a.dag.now.keys_fit in
    let fl : Fit a.dag.now.links.now = a.dag.now.links_fit in
    memory_ready a.dag.now.state.now a.dag.now.keys.now a.dag.now.links.now a.dag.now.certs.now a.dag.now.order.now fk fl p.order_value a.round.0 a.rows.now p.round_bound.1

pub returns-then-round-bottom : goal.returns-then-round-bottom
returns-then-round-bottom c =
    let a = c.args in
    let p = c.requires in
    let fk : Fit a.dag.now.keys.now = a.dag.now.keys_fit in
    let fl : Fit a.dag.now.links.now = a.dag.now.links_fit in
    memory_before a.dag.now.state.now a.dag.now.keys.now a.dag.now.links.now a.dag.now.certs.now a.dag.now.order.now fk fl p.order_value a.round.0 a.rows.now _ p.round_bound.1 c.if-prove.false c.if-round-bottom.true c.rows_of.ensures

pub returns : goal.returns
returns c =
    let a = c.args in
    let p = c.requires in
    let fk : Fit a.dag.now.keys.now = a.dag.now.keys_fit in
    let fl : Fit a.dag.now.links.now = a.dag.now.links_fit in
    round-before a.dag.now.state.now a.dag.now.keys.now a.dag.now.links.now a.dag.now.certs.now a.dag.now.order.now fk fl p.order_value a.round.0 _ _ _ _ c.prev.ensures c.if-round-bottom.false c.fill_round.ensures
