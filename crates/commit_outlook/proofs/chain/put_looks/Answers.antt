use native.Mathlib.Omega.{arith}
use Rattle.models.specs.Digest.{Fit}
use Rattle.tables_test.specs.Refines.{counted}
use Rattle.commit_outlook.specs.Chain.{standing_used, putting_first, putting_room, putting_more, putting_end}
use Rattle.commit_outlook.proofs.chain.put_looks.Goals as goal

pub loop-k-init : goal.loop-k-init
loop-k-init c =
    let a = c.args in
    let p = c.requires in
    putting_first a.dag.now.state.now a.dag.now.keys.now a.dag.now.links.now a.dag.now.certs.now a.dag.now.order.now _ a.count a.b.now p.order_value p.rising p.count_bound.1

pub put_look-at-requires : goal.put_look-at-requires
put_look-at-requires c =
    let a = c.args in
    let p = c.requires in
    let fk : Fit a.dag.now.keys.now = a.dag.now.keys_fit in
    let fl : Fit a.dag.now.links.now = a.dag.now.links_fit in
    let l = c.loop-k in
    let more = c.loop-k-test.true in
    record { started = counted a.dag.now.state.now a.dag.now.keys.now a.dag.now.links.now a.dag.now.certs.now a.dag.now.order.now fk fl p.order_value; used = (standing_used a.dag.now.state.now a.dag.now.keys.now a.dag.now.links.now a.dag.now.certs.now a.dag.now.order.now _ fk fl l.taken l.k l.invariant.stands more, l.invariant.stands.long); anchor_in_bounds = putting_room a.dag.now.state.now a.dag.now.keys.now a.dag.now.links.now a.dag.now.certs.now a.dag.now.order.now _ a.count a.b.now fk fl l.taken l.b l.at l.k l.invariant more p.count_in_bounds }

pub loop-k-preserved : goal.loop-k-preserved
loop-k-preserved c =
    let a = c.args in
    let p = c.requires in
    let fk : Fit a.dag.now.keys.now = a.dag.now.keys_fit in
    let fl : Fit a.dag.now.links.now = a.dag.now.links_fit in
    let l = c.loop-k in
    let o = c.put_look-at.ensures in
    putting_more a.dag.now.state.now a.dag.now.keys.now a.dag.now.links.now a.dag.now.certs.now a.dag.now.order.now _ a.count a.b.now fk fl l.taken l.b l.at l.k l.invariant c.loop-k-test.true _ _ _ o.next o.bytes o.took

pub returns : goal.returns
returns c =
    let a = c.args in
    let p = c.requires in
    let fk : Fit a.dag.now.keys.now = a.dag.now.keys_fit in
    let fl : Fit a.dag.now.links.now = a.dag.now.links_fit in
    let l = c.loop-k in
    putting_end a.dag.now.state.now a.dag.now.keys.now a.dag.now.links.now a.dag.now.certs.now a.dag.now.order.now _ a.count a.b.now fk fl l.taken l.b l.at l.k l.invariant (omega arith)
