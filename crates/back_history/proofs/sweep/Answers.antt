use native.Mathlib.Omega.{arith}
use Rattle.back_history.specs.Down.{down_none, down_end}
use Rattle.back_history.specs.Model.{swept, swept_hit, swept_miss}
use Rattle.back_history.proofs.sweep.Goals as goal

pub loop-p-init : goal.loop-p-init
unfolding swept
loop-p-init c = (omega arith, down_none _ _ _)

pub loop-p-preserved-then-is_fresh : goal.loop-p-preserved-then-is_fresh
loop-p-preserved-then-is_fresh c = (omega arith, swept_hit _ _ _ _ _ _ _ _ _ _ _ _ _ c.loop-p.invariant.1 (omega arith) (omega arith) c.place-q.ensures.value c.is_fresh.ensures c.if-is_fresh.true c.live_links.ensures.value c.mark_links.ensures)

pub loop-p-preserved : goal.loop-p-preserved
loop-p-preserved c = (omega arith, swept_miss _ _ _ _ _ _ _ _ _ _ _ c.loop-p.invariant.1 (omega arith) (omega arith) c.place-q.ensures.value c.is_fresh.ensures c.if-is_fresh.false)

pub returns : goal.returns
unfolding swept
returns c = down_end _ _ _ _ _ _ c.loop-p.invariant.1 (omega arith) (omega arith)
