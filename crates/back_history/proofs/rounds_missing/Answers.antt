use Rattle.back_history.specs.Model.{missing_not, missing_by}
use Rattle.back_history.proofs.rounds_missing.Goals as goal

pub returns-then-limit-full : goal.returns-then-limit-full
returns-then-limit-full c = missing_not _ _ _ c.if-limit-full.true

pub returns : goal.returns
returns c = missing_by _ _ _ c.if-limit-full.false
