use mathlib.Core.Path.{sym, ◌∙◌}
use Rattle.tables_test.specs.Refines.{counts_as_started_is}
use Rattle.tables_test.proofs.counts_as_started.Goals as goal

-- src/lib.rt:161:1
pub returns : goal.returns
returns c =
    let a = c.args in
    c.all_hold.ensures
    ∙ sym (counts_as_started_is a.dag.now.state.now a.dag.now.keys.now a.dag.now.links.now a.dag.now.certs.now a.dag.now.order.now a.dag.now.keys_fit a.dag.now.links_fit)
