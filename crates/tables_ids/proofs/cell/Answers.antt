use Rattle.tables_ids.specs.Model.{cell_of}
use borrow.Author.Rules.{rules}
use Rattle.tables_ids.proofs.cell.Goals as goal

-- `tables_ids::cell` meets its contract.
pub returns : goal.returns
unfolding cell_of
returns c = search rules
