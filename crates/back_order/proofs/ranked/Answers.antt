use Rattle.std.proofs.Common.{arith}
use Rattle.back_order.specs.Picks.{rank_first, rank_more, rank_end}
use Rattle.back_order.proofs.ranked.Goals as goal

pub loop-k-init : goal.loop-k-init
loop-k-init c = let h = c.requires in rank_first _ _ _ _ _ _ h.run.0 h.v_in_bounds c.pick-p.ensures

pub pick-p-requires-in-loop-k : goal.pick-p-requires-in-loop-k
pick-p-requires-in-loop-k c =
    let h = c.requires.run in
    (omega (arith, c.loop-k.invariant.within), h.1, h.2, h.3)

pub loop-k-preserved : goal.loop-k-preserved
loop-k-preserved c =
    let l = c.loop-k in
    rank_more _ _ _ _ _ l._k l.p _ l.invariant c.loop-k-test.true c.requires.v_in_bounds c.pick-p-in-loop-k.ensures

pub place-requires : goal.place-requires
place-requires c =
    let h = c.requires.run in
    record { i_lt_n = (c.loop-k.invariant.within, h.1); inside = h.3 }

pub returns : goal.returns
returns c = let l = c.loop-k in record { value = rank_end _ _ _ _ _ _ _ _ l.invariant (omega arith) c.place.ensures.value; upper_bound = c.place.ensures.upper_bound }
