use Rattle.committer_reply.specs.Reply.{reply-done, reply_said, reply-handed, reply-refused}
use Rattle.committer_reply.proofs.reply.reply_of.Goals as goal

pub returns-in-Done : goal.returns-in-Done
returns-in-Done c = reply-done _ c.in-Done.is

pub returns-in-Flag : goal.returns-in-Flag
returns-in-Flag c = reply_said _ _ _ c.in-Flag.is c.yes-word.ensures

pub returns-in-Anchors : goal.returns-in-Anchors
returns-in-Anchors c = reply-handed _ _ c.in-Anchors.is

pub returns-in-Refused : goal.returns-in-Refused
returns-in-Refused c = reply-refused _ _ _ _ _ c.in-Refused.is c.refusal_number-refused.ensures c.round_in-conflict.ensures
