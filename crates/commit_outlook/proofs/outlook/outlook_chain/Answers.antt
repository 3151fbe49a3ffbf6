use native.Mathlib.Omega.{arith}
use mathlib.Core.Path.{sym}
use Rattle.back_chain.specs.Chain.{chain_of}
use Rattle.commit_outlook.specs.Chain.{chain_length}
use Rattle.commit_outlook.specs.Outlook.{shown-refused, shown-all}
use Rattle.commit_outlook.proofs.outlook.outlook_chain.Goals as goal

pub look_chain-check-requires : goal.look_chain-check-requires
look_chain-check-requires c = let p = c.requires in record { order_value = p.order_value; rising = p.rising; count_bound = omega (arith, p.count_bound) }

pub returns-in-Err : goal.returns-in-Err
returns-in-Err c =
    let a = c.args in
    shown-refused a.dag.now.state.now a.dag.now.keys.now a.dag.now.links.now a.dag.now.certs.now a.dag.now.order.now a.b.now (chain_of a.c.list a.c.count) _ _ c.look_chain-check.ensures _ c.in-Err.is _ c.refused.ensures

pub overflow_cast-count : goal.overflow_cast-count
overflow_cast-count c = omega (arith, c.requires.count_bound)

pub returns : goal.returns
returns c =
    let a = c.args in
    shown-all a.dag.now.state.now a.dag.now.keys.now a.dag.now.links.now a.dag.now.certs.now a.dag.now.order.now a.b.now (chain_of a.c.list a.c.count) _ _ c.look_chain-check.ensures c.in_default.is a.c.count (sym (chain_length a.c.list a.c.count))
