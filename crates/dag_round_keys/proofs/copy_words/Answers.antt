use Rattle.std.proofs.Common.{arith, refl}
use Rattle.dag_round_keys.specs.Fill.{filled, filled_more, filled_end}
use Rattle.dag_round_keys.proofs.copy_words.Goals as goal

pub loop-i-init : goal.loop-i-init
unfolding filled
loop-i-init c = refl

pub loop-i-preserved : goal.loop-i-preserved
loop-i-preserved c = filled_more _ _ _ _ _ c.loop-i.invariant

pub returns : goal.returns
returns c = filled_end _ _ _ _ _ _ c.loop-i.invariant (omega arith) (omega arith)
