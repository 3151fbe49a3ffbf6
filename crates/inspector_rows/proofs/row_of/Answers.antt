use mathlib.Core.Path.{refl}
use Rattle.inspector_rows.specs.Rows.{row_from}
use Rattle.inspector_rows.proofs.row_of.Goals as goal

pub returns : goal.returns
unfolding row_from
returns c = refl
