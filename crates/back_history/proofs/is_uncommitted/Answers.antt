use Rattle.back_history.specs.Model.{is_uncommitted_by, is_uncommitted_not}
use Rattle.back_history.proofs.is_uncommitted.Goals as goal

pub returns-then-marks-q : goal.returns-then-marks-q
returns-then-marks-q c = is_uncommitted_by _ _ _ _ c.if-marks-q.true c.is_committed.ensures

pub returns : goal.returns
returns c = is_uncommitted_not _ _ _ c.if-marks-q.false
