use mathlib.Core.Path.{refl}
use native.Mathlib.Omega.{arith}
use Rattle.inspector_events.specs.Told.{upto_none, upto_more, upto_ready, upto_end}
use Rattle.inspector_counters.specs.Count.{span_range}
use Rattle.inspector_faults.specs.Faults.{round_ready, round-told}
use borrow.Author.Rules.{rules}
use Rattle.inspector_faults.proofs.emit_fault_rounds.Goals as goal

pub loop-k-init : goal.loop-k-init
loop-k-init c = upto_none _ _ _ _ _

pub plus-round-requires : goal.plus-round-requires
plus-round-requires c = let h = c.requires.by_index c.loop-k.k c.loop-k-test.true in search rules

pub span_at-span-requires : goal.span_at-span-requires
span_at-span-requires c =
    let p = c.requires in
    let h = p.by_index c.loop-k.k c.loop-k-test.true in
    record { keys_len = p.keys_len; sorted = (p.sorted.0, omega (arith, h, c.plus-round.ensures)) }

pub emit_faults-out-requires : goal.emit_faults-out-requires
emit_faults-out-requires c =
    let p = c.requires in
    let a = c.args in
    let l = c.loop-k in
    let x = c.span_at-span.ensures in
    record { range = (span_range a.dag.now.keys.now a.dag.now.certs.now a.dag.now.order.now a.n _ _ x p.sorted.0 p.keys_len.1 p.sorted.1 p.sorted.2 p.keys_len.2, p.keys_len.0); ready = round_ready _ _ _ _ _ _ _ c.plus-round.ensures _ x _ _ _ (upto_ready _ _ _ _ _ l.k _ _ l.invariant _ c.loop-k-test.true p.ready) }

pub loop-k-preserved : goal.loop-k-preserved
loop-k-preserved c =
    let l = c.loop-k in
    upto_more _ _ _ _ _ _ _ _ l.invariant _ _ _ _ (round-told _ _ _ _ _ _ _ c.plus-round.ensures _ c.span_at-span.ensures _ _ _ _ _ c.emit_faults-out.ensures) refl refl

pub returns : goal.returns
returns c = upto_end _ _ _ _ _ _ _ _ c.loop-k.invariant _ (omega arith)
