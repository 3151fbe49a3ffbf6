use Rattle.std.proofs.Common.{refl, arith}
use Rattle.tables_heights.specs.Model.{pushed, pushed_more, pushed_end, pushed_low}
use Rattle.tables_heights.proofs.push.Goals as goal

pub returns-then-v-lt2 : goal.returns-then-v-lt2
returns-then-v-lt2 c = pushed_low _ _ _ _ c.if-v-lt2.true

pub loop-k-init : goal.loop-k-init
unfolding pushed
loop-k-init c = refl

pub loop-k-preserved : goal.loop-k-preserved
loop-k-preserved c = pushed_more _ _ _ _ _ _ _ _ c.loop-k.invariant c.target.ensures c.raise.ensures c.less.ensures

pub returns : goal.returns
returns c = pushed_end _ _ _ _ _ _ c.loop-k.invariant (omega arith) c.loop-k-test.false
