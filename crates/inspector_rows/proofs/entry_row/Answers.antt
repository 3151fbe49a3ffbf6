use Rattle.inspector_rows.specs.Memory.{entry_row}
use Rattle.inspector_rows.proofs.entry_row.Goals as goal

pub returns : goal.returns
unfolding entry_row
returns c = c.row_of.ensures
