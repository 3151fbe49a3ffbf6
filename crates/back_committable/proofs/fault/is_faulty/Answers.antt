use borrow.Author.Tests.{not-true, not-false}
use mathlib.Core.Path.{refl, ◌∙◌}
use Rattle.back_committable.specs.ModelPoints.{faulty_not, faulty_by}
use Rattle.back_committable.proofs.fault.is_faulty.Goals as goal

pub returns-then-not-marks-q : goal.returns-then-not-marks-q
returns-then-not-marks-q c = faulty_not _ _ _ _ (not-true _ c.if-not-marks-q.true-raw)

pub returns : goal.returns
returns c = c.is_err.ensures.value ∙ faulty_by _ _ _ _ _ _ (not-false _ c.if-not-marks-q.false-raw) c.committable_point.ensures refl
