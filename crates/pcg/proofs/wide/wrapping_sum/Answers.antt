use Rattle.std.proofs.Common.{rules}
use Rattle.pcg.proofs.Halves.{low_fits}
use Rattle.pcg.specs.WideLaws.{sum_carried, sum_plain}
use Rattle.pcg.proofs.wide.wrapping_sum.Goals as goal

pub wrapping_add_u64-low-requires : goal.wrapping_add_u64-low-requires
wrapping_add_u64-low-requires c = search rules

pub wrapping_add_u64-high-requires : goal.wrapping_add_u64-high-requires
wrapping_add_u64-high-requires c = search rules

pub wrapping_add_u64-requires : goal.wrapping_add_u64-requires
wrapping_add_u64-requires c = search rules

pub returns-then-low-a : goal.returns-then-low-a
returns-then-low-a c =
    sum_carried c.args.a.high c.args.a.low c.args.b.high c.args.b.low _ _ _ (low_fits _ _ c.well_formed.0) (low_fits _ _ c.well_formed.1.0)
    c.wrapping_add_u64-low.ensures.value c.wrapping_add_u64-high.ensures.value c.wrapping_add_u64.ensures.value c.if-low-a.true

pub returns-else-low-a : goal.returns-else-low-a
returns-else-low-a c =
    sum_plain c.args.a.high c.args.a.low c.args.b.high c.args.b.low _ _ (low_fits _ _ c.well_formed.0) (low_fits _ _ c.well_formed.1.0)
    c.wrapping_add_u64-low.ensures.value c.wrapping_add_u64-high.ensures.value c.if-low-a.false
