use Rattle.models.specs.Digest.{Fit}
use Rattle.inspector_inspect.specs.After.{shown-first, genesis-fits}
use Rattle.inspector_inspect.proofs.first_shown.Goals as goal

pub plus-requires : goal.plus-requires
plus-requires c =
    let a = c.args in
    let p = c.requires in
    let fk : Fit a.dag.now.keys.now = a.dag.now.keys_fit in
    let fl : Fit a.dag.now.links.now = a.dag.now.links_fit in
    genesis-fits a.dag.now.state.now a.dag.now.keys.now a.dag.now.links.now a.dag.now.certs.now a.dag.now.order.now fk fl p

pub returns : goal.returns
returns c =
    let a = c.args in
    shown-first a.dag.now.state.now a.dag.now.keys.now a.dag.now.links.now a.dag.now.certs.now a.dag.now.order.now _ _ _ c.plus.ensures c.max.ensures c.max-2.ensures
