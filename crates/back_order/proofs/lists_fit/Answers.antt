use borrow.Author.Rules.{rules}
use Prim.Native.Nat.{◌-◌, ◌+◌}
use mathlib.Core.Path.{sym}
use mathlib.Core.Bool.{false≢true}
use native.Mathlib.Omega.{arith}
use Rattle.back_order.specs.Each.{each_fits}
use Rattle.back_order.specs.Counts.{fits-none, fits_more, fits_not, fits_end}
use Rattle.back_order.proofs.lists_fit.Goals as goal

pub loop-k-init : goal.loop-k-init
loop-k-init c = (search rules, fits-none _ _ _ _ _ _ _)

pub count_round-count-requires : goal.count_round-count-requires
count_round-count-requires c = let p = c.requires in record { keys_len = p.keys_len; sorted = (p.sorted.0, omega (arith, p.sorted.1, c.minus-r.ensures)) }

pub returns-then-not-each_once : goal.returns-then-not-each_once
returns-then-not-each_once c =
    let l = c.loop-k in record {
      ok_value = fits_not _ _ _ _ _ _ _ l.k l.end _ _ _ l.invariant.1 c.minus-r.ensures c.count_round-count.ensures c.each_once.ensures _ (search rules)
          (omega (arith, c.loop-k-test.true, c.minus-rounds.ensures, c.plus-above.ensures));
      end_value = λ t. absurd (false≢true t);
    }

pub overflow_add-end : goal.overflow_add-end
overflow_add-end c =
    let l = c.loop-k in
    let h = each_fits _ _ _ _ l.invariant.0 c.each_once.ensures (search rules) in
    search rules

pub loop-k-preserved : goal.loop-k-preserved
loop-k-preserved c =
    let l = c.loop-k in
    let test = c.each_once.ensures in (
      each_fits _ _ _ _ l.invariant.0 test (search rules),
      fits_more _ _ _ _ _ _ _ l.k l.end _ _ _ l.invariant.1 c.minus-r.ensures c.count_round-count.ensures test (search rules),
    )

pub returns : goal.returns
returns c =
    let l = c.loop-k in
    let a = c.args in
    let f = fits_end _ _ _ _ _ _ _ l.k (a.round.0 + 1 - a.lowest.0) _ l.invariant.1 (omega (arith, c.loop-k-test.false, c.minus-rounds.ensures, c.plus-above.ensures)) in
    record { ok_value = sym f.right; end_value = λ t. f.ends }
