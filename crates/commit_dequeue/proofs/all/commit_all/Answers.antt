use mathlib.Core.Path.{refl}
use native.Mathlib.Omega.{arith}
use Rattle.commit_dequeue.specs.All.{going_first, going_end, going_anchored, going_taken, going_refused}
use Rattle.commit_dequeue.proofs.all.commit_all.Goals as goal

pub loop-k-init : goal.loop-k-init
loop-k-init c =
    let a = c.args in
    (refl, refl, going_first a.keys.now a.links.now a.order.now a.s a.certs.now a.lists.now a.b.now _ a.count c.requires.order_value c.requires.rising)

pub dequeue_anchor-o-requires : goal.dequeue_anchor-o-requires
dequeue_anchor-o-requires c =
    let a = c.args in
    let l = c.loop-k in
    let g = l.invariant.2 in
    record { order_value = g.started; anchored = going_anchored a.keys.now a.links.now a.order.now a.s a.certs.now a.lists.now a.b.now _ a.count l.cur l.certs l.from l.b l.end l.finished l.k l.invariant.2 c.loop-k-test.true; from_in_bounds = (g.listed, g.within) }

pub returns-in-Err : goal.returns-in-Err
returns-in-Err c =
    let a = c.args in
    let l = c.loop-k in
    let o = c.dequeue_anchor-o in
    let told = going_refused a.keys.now a.links.now a.order.now a.s a.certs.now a.lists.now a.b.now _ a.count l.cur l.certs l.from l.b l.end l.finished l.k l.invariant.2 c.loop-k-test.true _ o.ensures.words o.ensures.says _ c.in-Err.is in record { words = told.0; finished = told.1 }

pub overflow_add-finished : goal.overflow_add-finished
overflow_add-finished c = omega (arith, c.loop-k.invariant.2.number, c.requires.count_bound)

pub loop-k-preserved : goal.loop-k-preserved
loop-k-preserved c =
    let a = c.args in
    let l = c.loop-k in
    let o = c.dequeue_anchor-o in
    (omega (arith, l.invariant.0), omega (arith, l.invariant.1), going_taken a.keys.now a.links.now a.order.now a.s a.certs.now a.lists.now a.b.now _ a.count l.cur l.certs l.from l.b l.end l.finished l.k l.invariant.2 c.loop-k-test.true _ o.ensures.words o.ensures.says c.in_default.is)

pub returns : goal.returns
returns c =
    let a = c.args in
    let l = c.loop-k in
    let told = going_end a.keys.now a.links.now a.order.now a.s a.certs.now a.lists.now a.b.now _ a.count l.cur l.certs l.from l.b l.end l.finished l.k l.invariant.2 (omega arith) in record { words = told.0; finished = told.1 }
