use Rattle.committer.specs.Replies.{replies}
use borrow.Author.Rules.{rules}
use Rattle.committer.proofs.points.committer_certify.Goals as goal

pub returns : goal.returns
returns c = replies _ _ _ _ _ _ _ _ _ _ c.reply_of.ensures c.certify-o.ensures
