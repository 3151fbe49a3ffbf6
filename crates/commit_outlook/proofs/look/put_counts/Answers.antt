use Rattle.std.proofs.Common.{◌+◌, ◌-◌, ◌≡◌, arith}
use Rattle.std.proofs.Math.Nat.{sub_self}
use Rattle.commit_outlook.specs.Look.{Counting, counting-none, counting_more, counting_long, counting_end}
use Rattle.commit_outlook.proofs.look.put_counts.Goals as goal
use Rattle.commit_outlook.proofs.look.put_counts.Goals.{After-put_number-next}

-- one round more is written
more : (c : After-put_number-next) → Counting c.args.keys.now c.args.order.now c.args.n c.args.marks.now c.args.round.0 c.args.at c.args.b.now c.put_number-next.new.b c.put_number-next.result (c.args.round.0 - c.loop-r.r + 1)
more c =
    let l = c.loop-r in
    counting_more _ _ _ _ _ _ _ l.b l.next (c.args.round.0 - l.r) l.invariant.1 l.r _ _ _ (omega arith) c.count_round-count.ensures c.put_number-next.ensures.0 c.put_number-next.ensures.1

pub loop-r-init : goal.loop-r-init
loop-r-init c = (omega arith, rw sub_self (counting-none _ _ _ _ _ _ _))

pub put_number-next-requires : goal.put_number-next-requires
put_number-next-requires c =
    let l = c.loop-r in
    omega (arith, c.requires.sorted.2, l.invariant.1.place, counting_long _ _ _ _ _ _ _ l.b l.next (c.args.round.0 - l.r) l.invariant.1)

pub loop-r-preserved : goal.loop-r-preserved
loop-r-preserved c =
    let next : c.args.round.0 - (c.loop-r.r - 1) ≡ c.args.round.0 - c.loop-r.r + 1 = omega arith in
    (omega arith, rw next (more (goal.at.loop-r-preserved c).After-put_number-next))

pub returns : goal.returns
returns c =
    let a = c.args in
    let l = c.loop-r in
    let told = counting_end _ _ _ _ _ _ _ l.b l.next (a.round.0 - l.r) l.invariant.1 (a.round.0 + 1 - a.lowest.0) (omega arith) in record { next = told.0; bytes = told.1 }

pub returns-2 : goal.returns-2
returns-2 c =
    let a = c.args in
    let l = c.loop-r in
    let told = counting_end _ _ _ _ _ _ _ c.put_number-next.new.b c.put_number-next.result (a.round.0 - l.r + 1) (more (goal.at.returns-2 c).After-put_number-next) (a.round.0 + 1 - a.lowest.0) (omega arith) in record { next = told.0; bytes = told.1 }
