use mathlib.Core.Path.{refl}
use Rattle.committer_reply.specs.Args.{info_in}
use Rattle.committer_reply.proofs.args.info_in.Goals as goal

pub returns : goal.returns
unfolding info_in
returns c = refl
