use Rattle.std.proofs.Common.{ℕ, ◌+◌, ◌-◌, ◌<◌, ◌≡◌, List, length, get_or, take, drop, refl, arith}
use Rattle.std.proofs.lemmas.List.{length-take, length-drop}
use Rattle.back_history.proofs.Cells.{cell}
use Rattle.back_order.specs.Each.{seen_none, seen_more, each_short, each_large, each_again, each_all}
use Rattle.back_order.proofs.each_once.Goals as goal

-- byte k of the list
listed : (ls : List ℕ) (from n k : ℕ) → k < length (take (from + n - from) (drop from ls)) → get_or (take (from + n - from) (drop from ls)) k 0 ≡ get_or ls (from + k) 0
listed ls from n k l = cell ls from (from + n) k _ l refl

pub returns-then-lists-from : goal.returns-then-lists-from
returns-then-lists-from c = let a = c.args in each_short a.lists.now a.from a.n c.if-lists-from.true

pub loop-byte-init : goal.loop-byte-init
loop-byte-init c = seen_none _ _ _

pub returns-then-n-v : goal.returns-then-n-v
returns-then-n-v c =
    let a = c.args in
    let l = c.loop-byte in
    each_large a.lists.now a.from a.n c.if-lists-from.false l.byte-index _ (omega (arith, length-take {A = ℕ})) (listed a.lists.now a.from a.n l.byte-index c.loop-byte-test.true) c.if-n-v.true

pub returns-then-seen-v : goal.returns-then-seen-v
returns-then-seen-v c =
    let a = c.args in
    let l = c.loop-byte in
    each_again a.lists.now a.from a.n c.if-lists-from.false l.byte-index _ _ l.invariant (omega (arith, length-take {A = ℕ})) (listed a.lists.now a.from a.n l.byte-index c.loop-byte-test.true) c.if-seen-v.true

pub loop-byte-preserved : goal.loop-byte-preserved
loop-byte-preserved c =
    let a = c.args in
    let l = c.loop-byte in
    let v = listed a.lists.now a.from a.n l.byte-index c.loop-byte-test.true in
    seen_more _ _ _ l.byte-index _ _ _ l.invariant v (omega (arith, v, (c.type_inv.lists (a.from + l.byte-index)).fits)) c.if-n-v.false c.if-seen-v.false refl

pub returns : goal.returns
returns c =
    let a = c.args in
    each_all a.lists.now a.from a.n c.if-lists-from.false _ _ c.loop-byte.invariant (omega (arith, length-take {A = ℕ}, length-drop {A = ℕ}))
