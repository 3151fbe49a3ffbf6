use Rattle.tables_test.specs.Model.{tested, chain_no, chain-yes, passed, shape_says, state_says, order_says}
use Rattle.tables_test.proofs.all_hold.Goals as goal

-- `tables_test::all_hold` meets its contract.
pub returns-then-not-shape_holds : goal.returns-then-not-shape_holds
unfolding tested
returns-then-not-shape_holds c = chain_no _ _ _ c.shape_holds.ensures c.if-not-shape_holds.true-raw

pub returns-then-not-state_holds : goal.returns-then-not-state_holds
unfolding tested
returns-then-not-state_holds c = chain-yes _ _ _ _ c.shape_holds.ensures c.if-not-shape_holds.false-raw (chain_no _ _ _ c.state_holds.ensures c.if-not-state_holds.true-raw)

pub order_holds-requires : goal.order_holds-requires
order_holds-requires c =
    let sh = shape_says _ _ _ _ (passed _ _ c.shape_holds.ensures c.if-not-shape_holds.false-raw) in
    let st = state_says _ _ (passed _ _ c.state_holds.ensures c.if-not-state_holds.false-raw) in
    (sh.0, st.1)

pub returns-then-not-order_holds : goal.returns-then-not-order_holds
unfolding tested
returns-then-not-order_holds c = chain-yes _ _ _ _ c.shape_holds.ensures c.if-not-shape_holds.false-raw (chain-yes _ _ _ _ c.state_holds.ensures c.if-not-state_holds.false-raw (chain_no _ _ _ c.order_holds.ensures c.if-not-order_holds.true-raw))

pub points_hold-requires : goal.points_hold-requires
points_hold-requires c =
    let sh = shape_says _ _ _ _ (passed _ _ c.shape_holds.ensures c.if-not-shape_holds.false-raw) in
    let st = state_says _ _ (passed _ _ c.state_holds.ensures c.if-not-state_holds.false-raw) in
    record { order_len_bound = (st.0, sh.0, sh.1, sh.2, st.1, st.3); inside = order_says _ _ _ (passed _ _ c.order_holds.ensures c.if-not-order_holds.false-raw) }

pub returns : goal.returns
unfolding tested
returns c = chain-yes _ _ _ _ c.shape_holds.ensures c.if-not-shape_holds.false-raw (chain-yes _ _ _ _ c.state_holds.ensures c.if-not-state_holds.false-raw (chain-yes _ _ _ _ c.order_holds.ensures c.if-not-order_holds.false-raw c.points_hold.ensures))
