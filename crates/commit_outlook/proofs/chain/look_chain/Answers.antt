use Rattle.tables_test.specs.View.{view}
use Rattle.back_chain.specs.Chain.{chain_of}
use Rattle.commit_outlook.specs.Chain.{chain-refused, chain_fits, chain-all}
use Rattle.std.proofs.lemmas.Result.{err_from_is_err_and}
use Rattle.commit_outlook.proofs.chain.look_chain.Goals as goal

pub returns-in_err-look_all : goal.returns-in_err-look_all
returns-in_err-look_all c = let a = c.args in let p = err_from_is_err_and c.from_residual.result c.from_residual.ensures.1 in rw (p.1, p.2) (chain-refused (view a.dag.now.state.now a.dag.now.keys.now a.dag.now.links.now a.dag.now.certs.now a.dag.now.order.now) a.b.now (chain_of a.list a.count) _ c.look_all.ensures _ c.in_err-look_all.was)

pub put_looks-requires : goal.put_looks-requires
put_looks-requires c =
    let a = c.args in
    let p = c.requires in
    let f = chain_fits (view a.dag.now.state.now a.dag.now.keys.now a.dag.now.links.now a.dag.now.certs.now a.dag.now.order.now) a.b.now (chain_of a.list a.count) _ c.look_all.ensures c.in_ok-look_all.was in
    record { order_value = p.order_value; rising = p.rising; count_bound = (p.count_bound, f.0); count_in_bounds = f.1 }

pub returns : goal.returns
returns c = let a = c.args in chain-all (view a.dag.now.state.now a.dag.now.keys.now a.dag.now.links.now a.dag.now.certs.now a.dag.now.order.now) a.b.now (chain_of a.list a.count) _ c.look_all.ensures c.in_ok-look_all.was _ c.put_looks.ensures
