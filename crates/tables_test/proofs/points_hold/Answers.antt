use Prim.Native.Nat.{ℕ}
use mathlib.Core.Path.{◌∙◌, ap}
use Rattle.tables_heights.specs.Model.{heights_hold}
use Rattle.tables_test.specs.Model.{points_hold, chain_no, chain-yes}
use Rattle.tables_test.proofs.points_hold.Goals as goal

pub returns-then-not-used_ok : goal.returns-then-not-used_ok
unfolding points_hold
returns-then-not-used_ok c = chain_no _ _ _ c.used_ok.ensures c.if-not-used_ok.true-raw

pub returns : goal.returns
unfolding points_hold
returns c =
    let a = c.args in
    chain-yes _ _ _ _ c.used_ok.ensures c.if-not-used_ok.false-raw (c.heights_hold.ensures ∙ ap (λ (t : ℕ). heights_hold a.dag.now.state.now.bottom.0 t a.dag.now.keys.now a.dag.now.links.now a.dag.now.certs.now a.dag.now.order.now a.dag.now.state.now.count) c.top_height-top.ensures)
