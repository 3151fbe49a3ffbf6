use Prim.Native.Nat.{◌<◌, ◌/◌}
use native.Mathlib.Omega.{arith}
use lib.ListN.{length, get_or}
use Rattle.dag_round_keys.specs.Look.{look-found, look_none}
use borrow.Author.Rules.{rules}
use Rattle.dag_round_keys.proofs.look.look_up.Goals as goal

pub look_place-requires : goal.look_place-requires
look_place-requires c =
    let p = c.find_point-at.result in
    let h : get_or c.args.order.now p 0 < length c.args.keys.now / 8 = c.requires.n_in_bounds.1.1 p (omega arith) in
    search rules

pub returns-then-at-n : goal.returns-then-at-n
returns-then-at-n c =
    let a = c.args in
    let f = c.find_point-at in
    look-found a.keys.now a.order.now a.n a.id.now _ f.ensures c.if-at-n.true _ c.slot.ensures _ c.look_place.ensures

pub returns : goal.returns
returns c =
    let a = c.args in
    look_none a.keys.now a.order.now a.n a.id.now _ c.find_point-at.ensures c.if-at-n.false
