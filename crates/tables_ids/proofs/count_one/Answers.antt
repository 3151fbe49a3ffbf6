use Rattle.tables_ids.specs.Model.{counted_full, counted-more}
use Rattle.tables_ids.proofs.count_one.Goals as goal

-- `tables_ids::count_one` meets its contract.
pub returns-then-seen-i-ge-VERSIONS : goal.returns-then-seen-i-ge-VERSIONS
returns-then-seen-i-ge-VERSIONS c = let told = counted_full _ _ _ _ _ _ c.round_word.ensures c.author.ensures c.cell-i.ensures.0 c.if-seen-i-ge-VERSIONS.true in record { value = told.0; seen_after = told.1 }

pub returns : goal.returns
returns c = let told = counted-more _ _ _ _ _ _ c.round_word.ensures c.author.ensures c.cell-i.ensures.0 c.if-seen-i-ge-VERSIONS.false in record { value = told.0; seen_after = told.1 }
