use Rattle.committer_reply.specs.Args.{begins_is}
use Rattle.committer_reply.proofs.args.start_args_in.Goals as goal

pub returns : goal.returns
returns c = begins_is _ _ c.used_in-used.ensures
