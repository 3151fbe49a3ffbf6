use Rattle.back_history.specs.Model.{marks_by}
use Rattle.back_history.proofs.gather_uncommitted.Goals as goal

pub returns : goal.returns
returns c = marks_by _ _ _ _ _ _ _ _ _ c.sweep.ensures
