use Rattle.std.proofs.Common.{rules}
use Rattle.pcg.proofs.Halves.{low_fits}
use Rattle.pcg.specs.Output.{output_is}
use Rattle.pcg.proofs.pcg.output.Goals as goal

pub overflow_cast-state : goal.overflow_cast-state
overflow_cast-state c = search rules

pub rotate_right-requires : goal.rotate_right-requires
rotate_right-requires c = search rules

pub returns : goal.returns
returns c =
    output_is c.args.state.high c.args.state.low _ (low_fits _ _ c.well_formed.0) c.rotate_right.ensures
