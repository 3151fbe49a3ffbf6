use Rattle.tables_test.specs.View.{view}
use Rattle.commit_start.specs.Start.{places_view, start_range, start-twice, start-passed}
use Rattle.commit_start.proofs.check_start.Goals as goal

pub returns-then-not-begins : goal.returns-then-not-begins
returns-then-not-begins c =
    let a = c.args in
    start_range (view a.dag.now.state.now a.dag.now.keys.now a.dag.now.links.now a.dag.now.certs.now a.dag.now.order.now) a.with _ _ (places_view _ _ _ _ _ _ c.places_of-places.ensures) c.begins.ensures c.if-not-begins.true-raw

pub returns-then-counts_as_started : goal.returns-then-counts_as_started
returns-then-counts_as_started c =
    let a = c.args in
    start-twice (view a.dag.now.state.now a.dag.now.keys.now a.dag.now.links.now a.dag.now.certs.now a.dag.now.order.now) a.with _ _ (places_view _ _ _ _ _ _ c.places_of-places.ensures) c.begins.ensures c.if-not-begins.false-raw _ c.counts_as_started.ensures c.if-counts_as_started.true

pub returns : goal.returns
returns c =
    let a = c.args in
    start-passed (view a.dag.now.state.now a.dag.now.keys.now a.dag.now.links.now a.dag.now.certs.now a.dag.now.order.now) a.with _ _ (places_view _ _ _ _ _ _ c.places_of-places.ensures) c.begins.ensures c.if-not-begins.false-raw _ c.counts_as_started.ensures c.if-counts_as_started.false
