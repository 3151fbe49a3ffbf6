use mathlib.Core.Path.{refl, ◌∙◌}
use Rattle.commit_state.specs.Back.{first_of}
use Rattle.commit_state.proofs.back.first_executable.Goals as goal

-- src/back.rt:60:1
pub returns-then-after_gap : goal.returns-then-after_gap
unfolding first_of
returns-then-after_gap c = c.plus.ensures ∙ rw c.if-after_gap.true refl

-- src/back.rt:60:1
pub returns-else-after_gap : goal.returns-else-after_gap
unfolding first_of
returns-else-after_gap c = rw c.if-after_gap.false refl
