use Prim.Native.Nat.{ℕ, ◌+◌, ◌-◌, ◌<◌, ◌≤◌}
use mathlib.Core.List.{List}
use Rattle.std.proofs.Math.Nat.{sub_self}
use mathlib.Core.Path.{◌≡◌, refl, ap, ◌∙◌}
use native.Mathlib.Omega.{arith}
use lib.ListN.{length, get_or}
use Rattle.laws.specs.Bytes.{written-length}
use Rattle.output_record.specs.Model.{wrote_none, wrote-more, wrote_is}
use Rattle.output_record.specs.Listed.{last_none, last_all, last_more, last_room, byte_small}
use Rattle.output_record.proofs.record.put_round.Goals as goal

-- byte i - 1 is the one before the last n - i
turned : (ls : List ℕ) (from n i v : ℕ) → 0 < i → i ≤ n → v ≡ get_or ls (from + (i - 1)) 0 → v ≡ get_or ls (from + (n - 1 - (n - i))) 0
turned ls from n i v l m e = let same : n - 1 - (n - i) ≡ i - 1 = omega arith in rw same e

pub loop-i-init : goal.loop-i-init
loop-i-init c = (refl, wrote_none _ _ _ _ _ _ _ _ _ (rw sub_self (last_none _ c.args.from c.args.n c.requires.n_in_bounds.1 _ _)) refl refl)

pub ranked-q-requires : goal.ranked-q-requires
ranked-q-requires c =
    let a = c.args in
    let v = byte_small a.lists.now a.from a.n c.requires.n_in_bounds.1 (c.loop-i.i - 1) _ (omega arith) c.byte_at-v.ensures.0 in
    record { run = c.requires.run.0; v_in_bounds = omega (arith, v, c.requires.run.1) }

pub put_new-end-requires : goal.put_new-end-requires
put_new-end-requires c =
    let a = c.args in
    let p = c.requires in
    let q = c.ranked-q.ensures in
    let l = c.loop-i.invariant in
    let room = last_room a.lists.now a.from a.n p.n_in_bounds.1 a.certs.now _ (a.n - c.loop-i.i) _ _ (omega arith) (turned a.lists.now a.from a.n c.loop-i.i _ (omega arith) (omega arith) c.byte_at-v.ensures.0) q.value _ _ _ _ _ l.1.0 p.room in
    record { q_bound = (omega (arith, q.upper_bound, p.n_in_bounds.4), omega (arith, q.upper_bound, p.n_in_bounds.3), p.n_in_bounds.2, p.n_in_bounds.5); room = (room.0, omega (arith, room.1, l.0)) }

pub loop-i-preserved : goal.loop-i-preserved
loop-i-preserved c =
    let a = c.args in
    let p = c.requires in
    let q = c.ranked-q.ensures in
    let l = c.loop-i.invariant in
    let w = c.put_new-end.ensures in
    let is = turned a.lists.now a.from a.n c.loop-i.i _ (omega arith) (omega arith) c.byte_at-v.ensures.0 in
    let room = last_room a.lists.now a.from a.n p.n_in_bounds.1 a.certs.now _ (a.n - c.loop-i.i) _ _ (omega arith) is q.value _ _ _ _ _ l.1.0 p.room in
    let next : a.n - (c.loop-i.i - 1) ≡ a.n - c.loop-i.i + 1 = omega arith in (
      ap length w.1 ∙ (written-length _ _ _ ∙ (written-length _ _ _ ∙ l.0)),
      rw next (wrote-more _ _ _ _ _ _ _ _ _ _ _ _ _ room.0 l.1 w (last_more _ a.from a.n p.n_in_bounds.1 _ _ (a.n - c.loop-i.i) _ _ (omega arith) is q.value)),
    )

pub returns : goal.returns
returns c =
    let a = c.args in
    wrote_is _ _ _ _ _ _ _ _ _ _ (last_all a.lists.now a.from a.n c.requires.n_in_bounds.1 a.certs.now _ _ (omega arith)) c.loop-i.invariant.1
