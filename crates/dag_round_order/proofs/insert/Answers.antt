use Rattle.std.proofs.Common.{◌≡◌, ◌+◌, ◌-◌, arith, refl, rules, sym}
use Rattle.dag_round_order.specs.Shift.{opened-all, opened_down, opened-put}
use Rattle.dag_round_order.proofs.insert.Goals as goal

pub loop-k-init : goal.loop-k-init
loop-k-init c = (omega arith, sym (opened-all _ _))

pub loop-k-preserved : goal.loop-k-preserved
loop-k-preserved c =
    let l = c.loop-k in
    let e : l.k - 1 + 1 ≡ l.k = omega arith in
    (omega arith, rw (e, l.invariant.1) (opened_down c.args.order.now c.args.n l.k (omega arith) (omega arith) (omega arith)))

pub returns : goal.returns
returns c =
    let l = c.loop-k in
    let e : l.k ≡ c.args.at = omega arith in
    rw (l.invariant.1, e) (opened-put c.args.order.now c.args.n c.args.at c.args.place (omega arith) (omega arith))
