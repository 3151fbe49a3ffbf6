use Prim.Native.Nat.{◌+◌, ◌-◌, ◌<◌}
use mathlib.Core.Path.{refl, ap, ◌∙◌}
use native.Mathlib.Omega.{arith}
use native.Mathlib.Nat.{zero-add}
use lib.ListN.{length}
use Rattle.laws.specs.Bytes.{written-length}
use Rattle.output_record.specs.Listed.{sofar_none, sofar_all, round_listed, sofar_room, sofar_more}
use Rattle.output_record.proofs.record.put_points.Goals as goal

pub plus-above-requires : goal.plus-above-requires
plus-above-requires c = let h = c.requires.listable.0 in omega (arith, h.high)

pub loop-k-init : goal.loop-k-init
loop-k-init c = (refl, sofar_none _ _ _ _ _ _ _ _ _ c.requires.listable.0 _ _ _ _)

pub plus-r-requires : goal.plus-r-requires
plus-r-requires c =
    let h = c.requires.listable.0 in
    omega (arith, h.high, c.loop-k-test.true, c.minus-rounds.ensures, c.plus-above.ensures)

pub put_one-done-requires : goal.put_one-done-requires
put_one-done-requires c =
    let a = c.args in
    let p = c.requires in
    let l = c.loop-k in
    let is = c.plus-r.ensures in
    let t : l.k < a.round.0 + 1 - a.lowest.0 = omega (arith, c.loop-k-test.true, c.minus-rounds.ensures, c.plus-above.ensures) in
    let room = sofar_room _ _ _ _ _ _ _ _ _ p.listable.0 l.k _ _ t is l.invariant.1.0 _ _ _ _ (l.invariant.1.1.0 ∙ zero-add _) p.room in
    record { round_listed = (round_listed _ _ _ _ _ _ _ _ _ p.listable.0 l.k _ _ t is l.invariant.1.0, p.listable.1); room = (room.0, omega (arith, room.1, l.invariant.0)) }

pub loop-k-preserved : goal.loop-k-preserved
loop-k-preserved c =
    let a = c.args in
    let p = c.requires in
    let l = c.loop-k in
    let w = c.put_one-done.ensures in
    let is = c.plus-r.ensures in
    let t : l.k < a.round.0 + 1 - a.lowest.0 = omega (arith, c.loop-k-test.true, c.minus-rounds.ensures, c.plus-above.ensures) in
    let room = sofar_room _ _ _ _ _ _ _ _ _ p.listable.0 l.k _ _ t is l.invariant.1.0 _ _ _ _ (l.invariant.1.1.0 ∙ zero-add _) p.room in (
      ap length w.1.1 ∙ (written-length _ _ _ ∙ (written-length _ _ _ ∙ l.invariant.0)),
      sofar_more _ _ _ _ _ _ _ _ _ p.listable.0 l.k _ _ t is l.invariant.1.0 _ _ _ _ _ _ _ _ _ room.0 l.invariant.1.1 w.0 w.1,
    )

pub returns : goal.returns
returns c =
    let l = c.loop-k in
    sofar_all _ _ _ _ _ _ _ _ _ c.requires.listable.0 _ _ _ _ _ _ _ _ l.invariant.1 (omega (arith, c.loop-k-test.false, c.minus-rounds.ensures, c.plus-above.ensures))
