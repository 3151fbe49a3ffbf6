use Rattle.std.proofs.Common.{rules}
use Rattle.back_chain.specs.Model.{low_of}
use Rattle.back_chain.proofs.lowest_walked.Goals as goal

pub returns : goal.returns
unfolding low_of
returns c = search rules
