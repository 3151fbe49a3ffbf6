use native.Mathlib.Omega.{arith}
use Rattle.models.specs.Digest.{Fit}
use Rattle.tables_test.specs.Refines.{counted}
use Rattle.commit_outlook.specs.Chain.{standing_used, looking_first, looking_refused, looking_room, looking_taken, looking_all}
use Rattle.std.proofs.lemmas.Result.{err_from_is_err_and}
use Rattle.commit_outlook.proofs.chain.look_all.Goals as goal

pub loop-k-init : goal.loop-k-init
loop-k-init c =
    let a = c.args in
    let p = c.requires in
    looking_first a.dag.now.state.now a.dag.now.keys.now a.dag.now.links.now a.dag.now.certs.now a.dag.now.order.now _ a.count a.room p.order_value p.rising

pub look_one-o-requires : goal.look_one-o-requires
look_one-o-requires c =
    let a = c.args in
    let p = c.requires in
    let fk : Fit a.dag.now.keys.now = a.dag.now.keys_fit in
    let fl : Fit a.dag.now.links.now = a.dag.now.links_fit in
    let l = c.loop-k in
    record { started = counted a.dag.now.state.now a.dag.now.keys.now a.dag.now.links.now a.dag.now.certs.now a.dag.now.order.now fk fl p.order_value; used = (standing_used a.dag.now.state.now a.dag.now.keys.now a.dag.now.links.now a.dag.now.certs.now a.dag.now.order.now _ fk fl l.taken l.k l.invariant.stands c.loop-k-test.true, l.invariant.stands.long) }

pub returns-in_err-o : goal.returns-in_err-o
returns-in_err-o c =
    let a = c.args in
    let p = c.requires in
    let fk : Fit a.dag.now.keys.now = a.dag.now.keys_fit in
    let fl : Fit a.dag.now.links.now = a.dag.now.links_fit in
    let l = c.loop-k in
    let e = err_from_is_err_and c.from_residual.result c.from_residual.ensures.1 in
    rw (e.1, e.2) (looking_refused a.dag.now.state.now a.dag.now.keys.now a.dag.now.links.now a.dag.now.certs.now a.dag.now.order.now _ a.count a.room fk fl l.taken l.left l.k l.invariant c.loop-k-test.true _ c.look_one-o.ensures.outcome _ c.in_err-o.was)

pub overflow_sub-left : goal.overflow_sub-left
overflow_sub-left c =
    let a = c.args in
    let p = c.requires in
    let fk : Fit a.dag.now.keys.now = a.dag.now.keys_fit in
    let fl : Fit a.dag.now.links.now = a.dag.now.links_fit in
    let l = c.loop-k in
    looking_room a.dag.now.state.now a.dag.now.keys.now a.dag.now.links.now a.dag.now.certs.now a.dag.now.order.now _ a.count a.room fk fl l.taken l.left l.k l.invariant c.loop-k-test.true _ c.look_one-o.ensures.outcome c.in_ok-o.was _ c.look_one-o.ensures.bytes

pub loop-k-preserved : goal.loop-k-preserved
loop-k-preserved c =
    let a = c.args in
    let p = c.requires in
    let fk : Fit a.dag.now.keys.now = a.dag.now.keys_fit in
    let fl : Fit a.dag.now.links.now = a.dag.now.links_fit in
    let l = c.loop-k in
    looking_taken a.dag.now.state.now a.dag.now.keys.now a.dag.now.links.now a.dag.now.certs.now a.dag.now.order.now _ a.count a.room fk fl l.taken l.left l.k l.invariant c.loop-k-test.true _ c.look_one-o.ensures.outcome c.in_ok-o.was _ c.look_one-o.ensures.bytes _ (c.look_one-o.ensures.took c.in_ok-o.was)

pub returns : goal.returns
returns c =
    let a = c.args in
    let p = c.requires in
    let fk : Fit a.dag.now.keys.now = a.dag.now.keys_fit in
    let fl : Fit a.dag.now.links.now = a.dag.now.links_fit in
    let l = c.loop-k in
    looking_all a.dag.now.state.now a.dag.now.keys.now a.dag.now.links.now a.dag.now.certs.now a.dag.now.order.now _ a.count a.room fk fl l.taken l.left l.k l.invariant (omega arith)
