use Rattle.committer.specs.Replies.{replies}
use borrow.Author.Rules.{rules}
use Rattle.committer.proofs.rounds.committer_round.Goals as goal

pub returns : goal.returns
returns c = replies _ _ _ _ _ _ _ _ _ _ c.reply_of.ensures c.extend_from_ahead-o.ensures
