use mathlib.Core.Path.{refl}
use Rattle.commit_state.specs.Back.{removed_state}
use Rattle.commit_state.proofs.back.removed_state.Goals as goal

pub returns : goal.returns
unfolding removed_state
returns c = refl
