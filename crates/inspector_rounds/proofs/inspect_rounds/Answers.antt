use mathlib.Core.Path.{refl, ◌∙◌}
use native.Mathlib.Omega.{arith}
use Rattle.models.specs.Digest.{Fit}
use Rattle.inspector_rounds.specs.Rounds.{signers_none, signers_more, sum-none, sum_end, below_all, below_top, next-few}
use borrow.Author.Rules.{rules}
use Rattle.inspector_rounds.proofs.inspect_rounds.Goals as goal

pub loop-k-init : goal.loop-k-init
loop-k-init c = (sum-none _ _ _ _ _ _ _ _ c.new.ensures refl refl refl, signers_none _ _ c.requires.first_value.2, refl)

pub add_round-next-requires : goal.add_round-next-requires
add_round-next-requires c =
    let a = c.args in
    let p = c.requires in
    let l = c.loop-k in
    let t = below_top a.first.0 l.k _ a.low.0 a.dag.now.state.now.top.0 c.minus-rounds.ensures c.loop-k-test.true p.first_value.1 in
    record { order_value = p.order_value; first_value = (p.first_value.0, t, search rules); summed = l.invariant.0 }

pub bounds-signers-k : goal.bounds-signers-k
bounds-signers-k c =
    let a = c.args in
    let p = c.requires in
    let fk : Fit a.dag.now.keys.now = a.dag.now.keys_fit in
    let fl : Fit a.dag.now.links.now = a.dag.now.links_fit in
    let l = c.loop-k in
    let t = below_top a.first.0 l.k _ a.low.0 a.dag.now.state.now.top.0 c.minus-rounds.ensures c.loop-k-test.true p.first_value.1 in
    let m = next-few a.dag.now.state.now a.dag.now.keys.now a.dag.now.links.now a.dag.now.certs.now a.dag.now.order.now fk fl p.order_value a.first.0 l.k p.first_value.0 t in
    let r = l.invariant.1.room in
    omega (arith, m, r)

pub loop-k-preserved : goal.loop-k-preserved
loop-k-preserved c =
    let a = c.args in
    let p = c.requires in
    let fk : Fit a.dag.now.keys.now = a.dag.now.keys_fit in
    let fl : Fit a.dag.now.links.now = a.dag.now.links_fit in
    let l = c.loop-k in
    let x = c.add_round-next.ensures in
    let t = below_top a.first.0 l.k _ a.low.0 a.dag.now.state.now.top.0 c.minus-rounds.ensures c.loop-k-test.true p.first_value.1 in
    let m = next-few a.dag.now.state.now a.dag.now.keys.now a.dag.now.links.now a.dag.now.certs.now a.dag.now.order.now fk fl p.order_value a.first.0 l.k p.first_value.0 t in
    (x.0.sum, signers_more _ _ _ l.invariant.1 (omega (arith, m)) _ x.0.signers _ refl, x.1 ∙ l.invariant.2)

pub returns : goal.returns
returns c =
    let a = c.args in
    let p = c.requires in
    let l = c.loop-k in
    (sum_end _ _ _ _ _ _ _ _ _ _ l.invariant.0 l.invariant.1 (below_all _ _ _ _ _ (search rules) c.loop-k-test.false c.minus-rounds.ensures p.first_value.0), l.invariant.2)
