use mathlib.Core.Path.{refl}
use Rattle.commit_state.specs.Back.{asked_state}
use Rattle.commit_state.proofs.back.ask_state.Goals as goal

-- src/back.rt:147:1
pub returns : goal.returns
unfolding asked_state
returns c = refl
