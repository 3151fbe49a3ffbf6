use Rattle.tables_links.specs.Words.{point_in_range}
use Rattle.tables_links.proofs.point_in_range.Goals as goal

-- `tables_links::point_in_range` meets its contract.
pub returns : goal.returns
unfolding point_in_range
returns c = cc
