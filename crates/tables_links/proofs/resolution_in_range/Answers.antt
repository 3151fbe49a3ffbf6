use Rattle.tables_links.specs.Words.{resolution_in_range}
use Rattle.tables_links.proofs.resolution_in_range.Goals as goal

-- `tables_links::resolution_in_range` meets its contract.
pub returns : goal.returns
unfolding resolution_in_range
returns c = cc
