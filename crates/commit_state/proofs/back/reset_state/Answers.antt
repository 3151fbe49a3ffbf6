use Rattle.commit_state.specs.Back.{cleared_state}
use Rattle.commit_state.proofs.back.reset_state.Goals as goal

pub returns : goal.returns
unfolding cleared_state
returns c = c.empty_state.ensures
