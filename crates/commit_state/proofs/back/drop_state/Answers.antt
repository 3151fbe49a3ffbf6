use mathlib.Core.Path.{refl}
use Rattle.commit_state.specs.Back.{dropped_state}
use Rattle.commit_state.proofs.back.drop_state.Goals as goal

-- src/back.rt:157:1
pub returns : goal.returns
unfolding dropped_state
returns c = refl
