use Prim.Native.Nat.{◌<◌, ◌/◌}
use mathlib.Core.Path.{◌≡◌, sym}
use native.Mathlib.Omega.{arith}
use lib.ListN.{length, get_or}
use Rattle.dag_round_keys.specs.Key.{key}
use Rattle.dag_round_keys.specs.Sorted.{point-here, point_not, point_end}
use borrow.Author.Rules.{rules}
use Rattle.models.specs.Tables.{author_at}
use Rattle.dag_round_keys.proofs.find_point.Goals as goal

-- The key stands at most once, so the author is compared there alone.
pub author-requires : goal.author-requires
author-requires c =
    let p = c.find-at.result in
    let h : get_or c.args.order.now p 0 < length c.args.keys.now / 8 = c.requires.n_in_bounds.1.1 p (omega arith) in
    search rules

pub returns-then-author-id : goal.returns-then-author-id
returns-then-author-id c =
    let a = c.args in
    let f = c.find-at in
    let e : author_at a.keys.now (get_or a.order.now f.result 0) ≡ get_or a.id.now 1 0 = cc in
    sym (point-here a.keys.now a.order.now a.n (key a.id.now 0) (get_or a.id.now 1 0) f.result f.ensures (omega arith) e)

pub returns-else-author-id : goal.returns-else-author-id
returns-else-author-id c =
    let a = c.args in
    let f = c.find-at in
    sym (point_not a.keys.now a.order.now a.n (key a.id.now 0) (get_or a.id.now 1 0) f.result f.ensures c.requires.sorted (omega arith) (λ e. c.if-author-id.false (cc)))

pub returns-else-at-n : goal.returns-else-at-n
returns-else-at-n c =
    let a = c.args in
    let f = c.find-at in
    sym (point_end a.keys.now a.order.now a.n (key a.id.now 0) (get_or a.id.now 1 0) f.result f.ensures c.if-at-n.false)
