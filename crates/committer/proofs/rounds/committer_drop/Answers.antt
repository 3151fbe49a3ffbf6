use Rattle.committer.specs.Replies.{replies}
use borrow.Author.Rules.{rules}
use Rattle.committer.proofs.rounds.committer_drop.Goals as goal

pub returns : goal.returns
returns c = replies _ _ _ _ _ _ _ _ _ _ c.reply_of.ensures c.drop_upto-o.ensures
