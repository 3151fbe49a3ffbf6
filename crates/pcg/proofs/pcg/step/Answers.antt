use Rattle.std.proofs.Common.{rules}
use Rattle.pcg.specs.Output.{steps}
use Rattle.pcg.proofs.pcg.step.Goals as goal

pub wrapping_product-multiplied-requires : goal.wrapping_product-multiplied-requires
wrapping_product-multiplied-requires c = search rules

pub wrapping_sum-next-requires : goal.wrapping_sum-next-requires
wrapping_sum-next-requires c = search rules

pub returns : goal.returns
returns c = steps _ _ _ _ c.wrapping_product-multiplied.ensures c.wrapping_sum-next.ensures
