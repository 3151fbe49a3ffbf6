use Rattle.std.proofs.Common.{rules}
use Rattle.pcg.proofs.Halves.{low_fits}
use Rattle.pcg.specs.WideLaws.{wrapping_product}
use Rattle.pcg.proofs.wide.wrapping_product.Goals as goal

pub product-lows-requires : goal.product-lows-requires
product-lows-requires c = search rules

pub product-left-requires : goal.product-left-requires
product-left-requires c = search rules

pub product-right-requires : goal.product-right-requires
product-right-requires c = search rules

pub wrapping_add_u64-across-requires : goal.wrapping_add_u64-across-requires
wrapping_add_u64-across-requires c = search rules

pub wrapping_add_u64-requires : goal.wrapping_add_u64-requires
wrapping_add_u64-requires c = search rules

pub returns : goal.returns
returns c =
    wrapping_product c.args.a.high c.args.a.low c.args.b.high c.args.b.low _ _ _ _ _ _ _ _ (low_fits _ _ c.product-lows.type_inv)
    c.product-lows.ensures c.product-left.ensures c.product-right.ensures c.wrapping_add_u64-across.ensures.value c.wrapping_add_u64.ensures.value
