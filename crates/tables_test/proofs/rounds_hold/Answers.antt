use native.Mathlib.Omega.{arith}
use Rattle.tables_test.specs.Model.{passed, range_says, rounds_no, rounds-yes}
use Rattle.tables_test.proofs.rounds_hold.Goals as goal

-- `tables_test::rounds_hold` meets its contract.
pub returns-then-not-range_holds : goal.returns-then-not-range_holds
returns-then-not-range_holds c = rounds_no _ _ c.range_holds.ensures c.if-not-range_holds.true-raw

pub overflow_sub-t : goal.overflow_sub-t
overflow_sub-t c =
    let r = range_says _ _ _ (passed _ _ c.range_holds.ensures c.if-not-range_holds.false-raw) in
    omega (arith, r.0)

pub overflow_add-t : goal.overflow_add-t
overflow_add-t c =
    let r = range_says _ _ _ (passed _ _ c.range_holds.ensures c.if-not-range_holds.false-raw) in
    omega (arith, r.2)

pub used_hold-requires : goal.used_hold-requires
used_hold-requires c =
    let r = range_says _ _ _ (passed _ _ c.range_holds.ensures c.if-not-range_holds.false-raw) in
    omega (arith, r.0, r.1, r.2)

pub returns : goal.returns
returns c = rounds-yes _ _ _ c.range_holds.ensures c.if-not-range_holds.false-raw c.used_hold.ensures
