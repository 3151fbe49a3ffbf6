use Rattle.commit_call.specs.Commit.{answer_from, ended-by_check}
use Rattle.commit_call.proofs.ended.Goals as goal

pub returns-in-Ok : goal.returns-in-Ok
unfolding answer_from
returns-in-Ok c = ended-by_check _ _ _ _ c.in-Ok.is

pub returns-in-Err : goal.returns-in-Err
unfolding answer_from
returns-in-Err c = ended-by_check _ _ _ _ c.in-Err.is
