use Rattle.tables_test.specs.Model.{order_holds, chain_no, chain-yes, passed, inside_says}
use Rattle.models.specs.Tables.{inside_keys}
use borrow.Author.Rules.{rules}
use Rattle.tables_test.proofs.order_holds.Goals as goal

-- `tables_test::order_holds` meets its contract.
pub returns-then-not-inside : goal.returns-then-not-inside
unfolding order_holds
returns-then-not-inside c = chain_no _ _ _ c.inside.ensures c.if-not-inside.true-raw

pub sorted-requires : goal.sorted-requires
sorted-requires c =
    let a = c.args in
    (search rules, inside_keys a.dag.now.keys.now a.dag.now.order.now _ c.requires.0 (inside_says _ _ _ (passed _ _ c.inside.ensures c.if-not-inside.false-raw)))

pub returns-then-not-sorted : goal.returns-then-not-sorted
unfolding order_holds
returns-then-not-sorted c = chain-yes _ _ _ _ c.inside.ensures c.if-not-inside.false-raw (chain_no _ _ _ c.sorted.ensures c.if-not-sorted.true-raw)

pub versions_hold-requires : goal.versions_hold-requires
versions_hold-requires c = record { keys_len = search rules; inside = inside_says _ _ _ (passed _ _ c.inside.ensures c.if-not-inside.false-raw) }

pub returns : goal.returns
unfolding order_holds
returns c = chain-yes _ _ _ _ c.inside.ensures c.if-not-inside.false-raw (chain-yes _ _ _ _ c.sorted.ensures c.if-not-sorted.false-raw c.versions_hold.ensures)
