use Rattle.std.proofs.Common.{◌≡◌, ◌-◌, arith, sym}
use Rattle.dag_round_order.specs.Shift.{moved_none, moved_more, moved_all}
use Rattle.dag_round_order.proofs.drain.Goals as goal

pub loop-i-init : goal.loop-i-init
loop-i-init c = sym (moved_none _ _)

pub loop-i-preserved : goal.loop-i-preserved
loop-i-preserved c = rw c.loop-i.invariant (moved_more c.args.order.now c.args.k c.loop-i.i (omega arith))

pub returns : goal.returns
returns c =
    let l = c.loop-i in
    let e : l.i ≡ c.args.n - c.args.k = omega arith in
    rw (l.invariant, e) (moved_all c.args.order.now c.args.n c.args.k)
