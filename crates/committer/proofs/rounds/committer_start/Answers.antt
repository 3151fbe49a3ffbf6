use Rattle.spec.specs.Calls as calls
use Rattle.commit_state.specs.declared.back.StartArgs.{StartArgs}
use Rattle.commit_state.specs.Reads.{start_args_of}
use Rattle.commit_start.specs.Start.{start_left}
use Rattle.committer.specs.Replies.{replies_with}
use borrow.Author.Rules.{rules}
use Rattle.committer.proofs.rounds.committer_start.Goals as goal

pub returns : goal.returns
returns c = replies_with (λ (u : StartArgs). calls.start (start_args_of u)) start_left _ _ c.start_args_in-beginning.ensures _ _ _ _ _ _ _ _ c.reply_of.ensures c.init-o.ensures
