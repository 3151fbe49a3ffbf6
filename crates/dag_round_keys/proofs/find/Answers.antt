use Prim.Native.Nat.{◌<◌, ◌/◌}
use mathlib.Core.Path.{◌≡◌, sym}
use mathlib.Core.Bool.{true, false}
use native.Mathlib.Omega.{arith}
use lib.ListN.{length, get_or}
use Rattle.dag_round_keys.specs.Key.{key, before}
use Rattle.dag_round_keys.specs.Sorted.{key_at, standing_here, standing_not, standing_end}
use borrow.Author.Rules.{rules}
use Rattle.dag_round_keys.proofs.find.Goals as goal

-- The key stands, if at all, at the first position that does not come before it.
pub less-requires : goal.less-requires
less-requires c =
    let p = c.seek-p.result in
    let h : get_or c.args.order.now p 0 < length c.args.keys.now / 8 = c.requires.n_in_bounds.1.1 p (omega arith) in
    search rules

pub returns-then-not-less : goal.returns-then-not-less
returns-then-not-less c =
    let a = c.args in
    let f = c.seek-p in
    let no : c.less.result ≡ false = search rules in
    let h : before (key a.id.now 0) (key_at a.keys.now a.order.now f.result) ≡ false = cc in
    sym (standing_here a.keys.now a.order.now a.n (key a.id.now 0) f.result f.ensures (omega arith) h)

pub returns-else-not-less : goal.returns-else-not-less
returns-else-not-less c =
    let a = c.args in
    let f = c.seek-p in
    let yes : c.less.result ≡ true = search rules in
    let h : before (key a.id.now 0) (key_at a.keys.now a.order.now f.result) ≡ true = cc in
    sym (standing_not a.keys.now a.order.now a.n (key a.id.now 0) f.result f.ensures c.requires.sorted (omega arith) h)

pub returns-else-p-n : goal.returns-else-p-n
returns-else-p-n c =
    let a = c.args in
    let f = c.seek-p in
    sym (standing_end a.keys.now a.order.now a.n (key a.id.now 0) f.result f.ensures c.if-p-n.false)
