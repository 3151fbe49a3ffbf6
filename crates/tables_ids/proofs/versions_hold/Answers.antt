use Rattle.tables_ids.specs.Model.{none_tallied}
use borrow.Author.Rules.{rules}
use Rattle.tables_ids.proofs.versions_hold.Goals as goal

-- `tables_ids::versions_hold` meets its contract.
pub count_all-requires : goal.count_all-requires
count_all-requires c =
    let at-args = c.args in
    record { keys_len = search rules; inside = c.requires.inside; tallied = none_tallied at-args.keys.now at-args.order.now }
