use mathlib.Core.Path.{refl}
use Rattle.commit_state.specs.Back.{armed_of}
use Rattle.commit_state.proofs.back.armed.Goals as goal

-- src/back.rt:68:1
pub returns-then-after_gap : goal.returns-then-after_gap
unfolding armed_of
returns-then-after_gap c = rw c.if-after_gap.true refl

-- src/back.rt:68:1
pub returns-else-after_gap : goal.returns-else-after_gap
unfolding armed_of
returns-else-after_gap c = rw c.if-after_gap.false refl
