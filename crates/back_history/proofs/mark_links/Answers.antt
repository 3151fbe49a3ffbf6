use mathlib.Core.Path.{refl}
use Rattle.back_history.specs.Model.{marked, marked_more}
use Rattle.back_history.proofs.mark_links.Goals as goal

pub loop-k-init : goal.loop-k-init
unfolding marked
loop-k-init c = refl

pub loop-k-preserved : goal.loop-k-preserved
loop-k-preserved c = marked_more _ _ _ _ _ _ _ c.loop-k.invariant c.target.ensures c.mark_target.ensures
