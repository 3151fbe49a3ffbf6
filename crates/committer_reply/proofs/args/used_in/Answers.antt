use Rattle.committer_reply.specs.Args.{used_none, used_some}
use Rattle.committer_reply.proofs.args.used_in.Goals as goal

pub returns-then-used-eq4294967295 : goal.returns-then-used-eq4294967295
returns-then-used-eq4294967295 c = used_none _ c.if-used-eq4294967295.true

pub returns : goal.returns
returns c = used_some _ c.if-used-eq4294967295.false
