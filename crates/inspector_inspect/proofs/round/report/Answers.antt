use Prim.Native.Nat.{ℕ, ◌≤◌}
use mathlib.Core.Path.{◌≡◌}
use native.Mathlib.Omega.{arith}
use Rattle.models.specs.Digest.{Fit}
use Rattle.inspector_inspect.specs.Filled.{positions_ready, trusted_ready, trusted_here}
use Rattle.inspector_inspect.specs.Report.{is_reported}
use Rattle.inspector_inspect.proofs.round.report.Goals as goal

-- the rows stay as many
room : (n m : ℕ) → m ≡ n → 1_408 ≤ n → 1_408 ≤ m
room n m e h = omega arith

pub span_at-span-requires : goal.span_at-span-requires
span_at-span-requires c =
    let a = c.args in
    let p = c.requires in
    let fk : Fit a.dag.now.keys.now = a.dag.now.keys_fit in
    let fl : Fit a.dag.now.links.now = a.dag.now.links_fit in
    let told = positions_ready a.dag.now.state.now a.dag.now.keys.now a.dag.now.links.now a.dag.now.certs.now a.dag.now.order.now fk fl p.order_value a.round.0 p.round_bound.0 in record { keys_len = told.0; sorted = told.1 }

pub trusted_places-trusted-requires : goal.trusted_places-trusted-requires
trusted_places-trusted-requires c =
    let a = c.args in
    let p = c.requires in
    let fk : Fit a.dag.now.keys.now = a.dag.now.keys_fit in
    let fl : Fit a.dag.now.links.now = a.dag.now.links_fit in
    let told = trusted_ready a.dag.now.state.now a.dag.now.keys.now a.dag.now.links.now a.dag.now.certs.now a.dag.now.order.now fk fl p.order_value a.round.0 c.span_at-span.result c.span_at-span.ensures in record { range = told.0; keys_len = told.1 }

pub signers_at-owed-requires : goal.signers_at-owed-requires
signers_at-owed-requires c =
    let a = c.args in
    let p = c.requires in
    let fk : Fit a.dag.now.keys.now = a.dag.now.keys_fit in
    let fl : Fit a.dag.now.links.now = a.dag.now.links_fit in
    let x = c.span_at-span in
    let y = c.trusted_places-trusted in
    record { order_value = p.order_value; listed = trusted_here a.dag.now.state.now a.dag.now.keys.now a.dag.now.links.now a.dag.now.certs.now a.dag.now.order.now fk fl p.order_value a.round.0 x.result x.ensures y.result.places y.result.count y.ensures; rows_before = (c.fill_before-n.ensures, room _ _ c.rows-1.given p.round_bound.1) }

pub returns : goal.returns
returns c =
    let a = c.args in
    let p = c.requires in
    let fk : Fit a.dag.now.keys.now = a.dag.now.keys_fit in
    let fl : Fit a.dag.now.links.now = a.dag.now.links_fit in
    let x = c.span_at-span in
    let y = c.trusted_places-trusted in
    is_reported a.dag.now.state.now a.dag.now.keys.now a.dag.now.links.now a.dag.now.certs.now a.dag.now.order.now a.round.0 _ _ (room _ _ c.rows-1.given p.round_bound.1) c.fill_before-n.ensures
    (trusted_here a.dag.now.state.now a.dag.now.keys.now a.dag.now.links.now a.dag.now.certs.now a.dag.now.order.now fk fl p.order_value a.round.0 x.result x.ensures y.result.places y.result.count y.ensures) c.signers_at-owed.ensures
