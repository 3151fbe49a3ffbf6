use mathlib.Core.Path.{sym, subst}
use native.Mathlib.Omega.{arith}
use lib.ListN.{length}
use Rattle.back_history.specs.Down.{down_none, down_end}
use Rattle.back_behind.specs.Model.{Sourced, note_down, down_hit, down_miss, links_sourced}
use borrow.Author.Rules.{rules}
use Rattle.back_behind.proofs.note_down.Goals as goal

pub loop-p-init : goal.loop-p-init
unfolding note_down
loop-p-init c = (c.requires.range.0, down_none _ _ _, c.requires.keys_len.2)

pub place-q-requires : goal.place-q-requires
place-q-requires c = record { i_lt_n = search rules; inside = c.requires.range.4 }

pub note_links-requires : goal.note_links-requires
note_links-requires c =
    let s = c.requires in
    let q = c.place-q.ensures in
    record { m_bound = (c.live_links.ensures.upper_bound, omega (arith, q, s.range, s.keys_len.0, s.keys_len.1)); q_bound = (omega (arith, q, s.range), omega (arith, q, s.range, s.keys_len.0), c.loop-p.invariant.2) }

pub loop-p-preserved-then-is_uncommitted : goal.loop-p-preserved-then-is_uncommitted
loop-p-preserved-then-is_uncommitted c =
    let s = c.requires in
    let q = c.place-q.ensures in
    let l = c.loop-p.invariant in (
      omega arith,
      down_hit _ _ _ _ _ _ _ _ _ _ _ _ _ _ l.1 (omega arith) (omega arith) q.value c.is_uncommitted.ensures c.if-is_uncommitted.true c.live_links.ensures.value c.note_links.ensures,
      subst (Sourced (length c.args.keys.now)) (sym c.note_links.ensures) (links_sourced _ _ _ (omega (arith, q, s.range, s.keys_len.0)) _ _ _ l.2),
    )

pub loop-p-preserved : goal.loop-p-preserved
loop-p-preserved c =
    let l = c.loop-p.invariant in
    (omega arith, down_miss _ _ _ _ _ _ _ _ _ _ _ _ l.1 (omega arith) (omega arith) c.place-q.ensures.value c.is_uncommitted.ensures c.if-is_uncommitted.false, l.2)

pub returns : goal.returns
unfolding note_down
returns c = (down_end _ _ _ _ _ _ c.loop-p.invariant.1 c.loop-p.invariant.0 (omega arith), c.loop-p.invariant.2)
