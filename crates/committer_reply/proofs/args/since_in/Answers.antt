use Rattle.stats.specs.Ranges.{since_of}
use Rattle.committer_reply.specs.Args.{since_none, since-some}
use Rattle.committer_reply.proofs.args.since_in.Goals as goal

pub returns-then-has_since-eq0 : goal.returns-then-has_since-eq0
unfolding since_of
returns-then-has_since-eq0 c = since_none _ _ c.if-has_since-eq0.true

pub returns : goal.returns
unfolding since_of
returns c = since-some _ _ c.if-has_since-eq0.false
