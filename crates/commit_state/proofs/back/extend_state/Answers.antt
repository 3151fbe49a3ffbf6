use mathlib.Core.Path.{refl}
use Rattle.commit_state.specs.Back.{extended_state}
use Rattle.commit_state.proofs.back.extend_state.Goals as goal

-- src/back.rt:131:1
pub returns : goal.returns
unfolding extended_state
returns c = refl
