use Rattle.commit_rounds.specs.Round.{with_old, with_new}
use Rattle.commit_rounds.proofs.with_round.Goals as goal

pub returns-then-round-top : goal.returns-then-round-top
returns-then-round-top c = search with_old

pub returns : goal.returns
returns c = with_new _ _ _ _ c.if-round-top.false c.extend_state.ensures
