use Rattle.inspector_inspect.specs.After.{memory_stays, memory_fills}
use Rattle.inspector_inspect.proofs.memory_after.Goals as goal

pub returns-then-low-first : goal.returns-then-low-first
returns-then-low-first c = let a = c.args in memory_stays a.dag.now.state.now a.dag.now.keys.now a.dag.now.links.now a.dag.now.certs.now a.dag.now.order.now a.low.0 _ c.first_inspected-first.ensures c.if-low-first.true

pub returns : goal.returns
returns c =
    let a = c.args in
    memory_fills a.dag.now.state.now a.dag.now.keys.now a.dag.now.links.now a.dag.now.certs.now a.dag.now.order.now a.low.0 _ c.first_inspected-first.ensures c.if-low-first.false _ _ _ _ c.prev-last.ensures c.fill_round-n.ensures c.memory_of.ensures
