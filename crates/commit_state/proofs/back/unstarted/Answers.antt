use mathlib.Core.Path.{ap, ◌∙◌}
use Rattle.commit_state.specs.Back.{empty_state, unstarted_state}
use Rattle.commit_state.proofs.back.unstarted.Goals as goal

pub returns : goal.returns
unfolding unstarted_state
returns c = c.empty_state.ensures ∙ ap (empty_state 0) c.empty_memory-memory.ensures
