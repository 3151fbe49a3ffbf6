use Rattle.committer_reply.specs.Reply.{round-none, round_is}
use Rattle.committer_reply.proofs.reply.round_in.Goals as goal

pub returns-in-Number : goal.returns-in-Number
returns-in-Number c = round-none _ _ c.in-Number.is

pub returns-in-Conflict : goal.returns-in-Conflict
returns-in-Conflict c = round_is _ _ c.in-Conflict.is
