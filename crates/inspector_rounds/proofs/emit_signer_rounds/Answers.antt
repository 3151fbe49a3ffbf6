use native.Mathlib.Omega.{arith}
use Rattle.models.specs.Digest.{Fit}
use Rattle.tables_test.specs.View.{view}
use Rattle.inspector_events.specs.Told.{upto_none}
use Rattle.inspector_rounds.specs.Rounds.{below_top, next-few, next_low}
use Rattle.inspector_rounds.specs.Emit.{round_ready, round-told, round-none, rounds-told}
use borrow.Author.Rules.{rules}
use Rattle.inspector_rounds.proofs.emit_signer_rounds.Goals as goal
use Rattle.inspector_rounds.proofs.emit_signer_rounds.Goals.{then-reported-ne0, else-reported-ne0}

pub loop-k-init : goal.loop-k-init
loop-k-init c = upto_none _ _ _ _ _

pub bounds-signers-k : goal.bounds-signers-k
bounds-signers-k c =
    let a = c.args in
    let p = c.requires in
    let fk : Fit a.dag.now.keys.now = a.dag.now.keys_fit in
    let fl : Fit a.dag.now.links.now = a.dag.now.links_fit in
    let l = c.loop-k in
    let t = below_top a.first.0 l.k _ a.low.0 a.dag.now.state.now.top.0 c.minus-rounds.ensures c.loop-k-test.true p.first_value.1 in
    let m = next-few a.dag.now.state.now a.dag.now.keys.now a.dag.now.links.now a.dag.now.certs.now a.dag.now.order.now fk fl p.order_value a.first.0 l.k p.first_value.0 t in
    let r = p.signers_hold.room in
    omega (arith, m, r)

pub plus-requires : goal.plus-requires
plus-requires c =
    let a = c.args in
    let p = c.requires in
    let fk : Fit a.dag.now.keys.now = a.dag.now.keys_fit in
    let fl : Fit a.dag.now.links.now = a.dag.now.links_fit in
    let l = c.loop-k in
    let t = below_top a.first.0 l.k _ a.low.0 a.dag.now.state.now.top.0 c.minus-rounds.ensures c.loop-k-test.true p.first_value.1 in
    let m = next_low a.dag.now.state.now a.dag.now.keys.now a.dag.now.links.now a.dag.now.certs.now a.dag.now.order.now fk fl p.order_value a.first.0 l.k p.first_value.0 t in
    omega (arith, m)

pub emit_owed-out-requires : goal.emit_owed-out-requires
emit_owed-out-requires c =
    let a = c.args in
    let p = c.requires in
    let fk : Fit a.dag.now.keys.now = a.dag.now.keys_fit in
    let fl : Fit a.dag.now.links.now = a.dag.now.links_fit in
    let l = c.loop-k in
    let x = c.plus.ensures in
    let t = below_top a.first.0 l.k _ a.low.0 a.dag.now.state.now.top.0 c.minus-rounds.ensures c.loop-k-test.true p.first_value.1 in
    let m = next_low a.dag.now.state.now a.dag.now.keys.now a.dag.now.links.now a.dag.now.certs.now a.dag.now.order.now fk fl p.order_value a.first.0 l.k p.first_value.0 t in
    record { order_value = p.order_value; round_bound = (omega (arith, m, x), search rules); ready = round_ready (view a.dag.now.state.now a.dag.now.keys.now a.dag.now.links.now a.dag.now.certs.now a.dag.now.order.now) a.write a.b.now a.e a.first.0 p.first_value.0 a.low.0 _ c.minus-rounds.ensures l.k _ _ l.invariant _ x c.loop-k-test.true p.ready }

pub loop-k-preserved : goal.loop-k-preserved
loop-k-preserved c =
    let a = c.args in
    let p = c.requires in
    let l = c.loop-k in
    elim c.if-reported-ne0.branch [ then-reported-ne0 w ↦ round-told (view a.dag.now.state.now a.dag.now.keys.now a.dag.now.links.now a.dag.now.certs.now a.dag.now.order.now) a.write a.b.now a.e a.first.0 p.first_value.0 a.low.0 _ c.minus-rounds.ensures l.k _ _ l.invariant _ w.plus.ensures _ _ _ _ w.emit_owed-out.ensures w.out-is w.b-is | else-reported-ne0 w ↦ round-none (view a.dag.now.state.now a.dag.now.keys.now a.dag.now.links.now a.dag.now.certs.now a.dag.now.order.now) a.write a.b.now a.e a.first.0 p.first_value.0 a.low.0 _ c.minus-rounds.ensures l.k _ _ l.invariant _ p.signers_hold c.loop-k-test.true w.if-reported-ne0.false _ _ w.out-is w.b-is ]

pub returns : goal.returns
returns c =
    let a = c.args in
    let p = c.requires in
    let l = c.loop-k in
    rounds-told (view a.dag.now.state.now a.dag.now.keys.now a.dag.now.links.now a.dag.now.certs.now a.dag.now.order.now) a.write a.b.now a.e a.first.0 p.first_value.0 a.low.0 _ c.minus-rounds.ensures l.k _ _ l.invariant (search rules) c.loop-k-test.false
