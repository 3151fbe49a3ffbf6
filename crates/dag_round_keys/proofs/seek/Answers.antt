use Prim.Native.Nat.{◌<◌, ◌-◌, ◌+◌, ◌/◌}
use mathlib.Core.Path.{◌≡◌, sym}
use mathlib.Core.Bool.{true, false}
use native.Mathlib.Omega.{arith}
use lib.ListN.{length, get_or}
use Rattle.dag_round_keys.specs.Key.{key, before}
use Rattle.dag_round_keys.specs.Sorted.{key_at, place_is, down_from_lem, up_from}
use borrow.Author.Rules.{rules}
use Rattle.dag_round_keys.proofs.seek.Goals as goal

pub loop-lo-init : goal.loop-lo-init
loop-lo-init c = (search rules, search rules, (λ j l. absurd (omega arith)), λ j l m. absurd (omega arith))

pub less-requires : goal.less-requires
less-requires c =
    let l = c.loop-lo in
    let mid = l.lo + (l.hi - l.lo) / 2 in
    let h : get_or c.args.order.now mid 0 < length c.args.keys.now / 8 = c.requires.n_in_bounds.1.1 mid (omega arith) in
    search rules

pub loop-lo-preserved-then-less : goal.loop-lo-preserved-then-less
loop-lo-preserved-then-less c =
    let a = c.args in
    let l = c.loop-lo in
    let mid = l.lo + (l.hi - l.lo) / 2 in
    let h : before (key_at a.keys.now a.order.now mid) (key a.id.now 0) ≡ true = cc in
    (search rules, search rules, (λ j m. down_from_lem a.keys.now a.order.now a.n (key a.id.now 0) mid j c.requires.sorted (omega arith) h m), l.invariant.3)

pub loop-lo-preserved : goal.loop-lo-preserved
loop-lo-preserved c =
    let a = c.args in
    let l = c.loop-lo in
    let mid = l.lo + (l.hi - l.lo) / 2 in
    let h : before (key_at a.keys.now a.order.now mid) (key a.id.now 0) ≡ false = cc in
    (search rules, search rules, l.invariant.2, λ j m b. up_from a.keys.now a.order.now a.n (key a.id.now 0) mid j c.requires.sorted m b h)

pub returns : goal.returns
returns c =
    let l = c.loop-lo in
    sym (place_is _ _ _ _ _ (omega arith) l.invariant.2 (λ m. l.invariant.3 _ (omega arith) m))
