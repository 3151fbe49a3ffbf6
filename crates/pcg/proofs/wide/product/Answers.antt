use Rattle.std.proofs.Common.{rules}
use Rattle.pcg.specs.WideLaws.{product_is}
use Rattle.pcg.proofs.wide.product.Goals as goal

pub limb_product-lowest-requires : goal.limb_product-lowest-requires
limb_product-lowest-requires c = search rules

pub limb_product-requires : goal.limb_product-requires
limb_product-requires c = search rules

pub overflow_add-middle : goal.overflow_add-middle
overflow_add-middle c = search rules

pub limb_product-requires-2 : goal.limb_product-requires-2
limb_product-requires-2 c = search rules

pub overflow_add-next : goal.overflow_add-next
overflow_add-next c = search rules

pub limb_product-highest-requires : goal.limb_product-highest-requires
limb_product-highest-requires c = search rules

pub overflow_add-result : goal.overflow_add-result
overflow_add-result c = search rules

pub overflow_add-result-2 : goal.overflow_add-result-2
overflow_add-result-2 c = search rules

pub overflow_mul-result : goal.overflow_mul-result
overflow_mul-result c = search rules

pub overflow_add-result-3 : goal.overflow_add-result-3
overflow_add-result-3 c = search rules

pub returns : goal.returns
returns c =
    let a = c.args in
    product_is a.u a.v _ _ _ _ c.limb_product-lowest.ensures.0 c.limb_product.ensures.0 c.limb_product-2.ensures.0 c.limb_product-highest.ensures.0
