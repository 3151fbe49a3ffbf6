use Rattle.std.proofs.Common.{refl, arith}
use Rattle.pcg.specs.WideLaws.{limbs}
use Rattle.pcg.proofs.wide.limb_product.Goals as goal

pub overflow_mul-result : goal.overflow_mul-result
overflow_mul-result c = omega (arith, limbs c.args.x c.args.y c.requires.0 c.requires.1)

pub returns : goal.returns
returns c = (refl, limbs c.args.x c.args.y c.requires.0 c.requires.1)
