use borrow.Author.Rules.{rules}
use native.Mathlib.Omega.{arith}
use Rattle.back_history.specs.Down.{down_none, down_end}
use Rattle.back_committable.specs.Scan.{scanned, scanned_most, scanned_hit, scanned_miss}
use Rattle.back_committable.specs.ModelPoints.{first_fault, faulty_at_lem, round-fits}
use Rattle.back_committable.proofs.fault.first_fault.Goals as goal

pub loop-p-init : goal.loop-p-init
unfolding scanned
loop-p-init c = (search rules, down_none _ _ _)

pub place-q-requires : goal.place-q-requires
place-q-requires c = record { i_lt_n = search rules; inside = c.requires.range.4 }

pub is_faulty-requires : goal.is_faulty-requires
is_faulty-requires c =
    let a = c.args in
    (search rules, search rules, round-fits a.keys.now a.order.now a.high _ _ c.requires.keys_len.1 (omega arith) c.place-q.ensures.value, search rules)

pub sooner-found-requires : goal.sooner-found-requires
sooner-found-requires c = (search rules, scanned_most _ _ _ _ _ c.loop-p.invariant.1, search rules, search rules, c.requires.range.4)

pub loop-p-preserved-then-is_faulty : goal.loop-p-preserved-then-is_faulty
loop-p-preserved-then-is_faulty c = (search rules, scanned_hit _ _ _ _ _ _ _ c.loop-p.invariant.1 (omega arith) (omega arith) (faulty_at_lem _ _ _ _ _ _ _ c.place-q.ensures.value c.is_faulty.ensures) c.if-is_faulty.true c.sooner-found.ensures)

pub loop-p-preserved : goal.loop-p-preserved
loop-p-preserved c = (search rules, scanned_miss _ _ _ _ _ _ c.loop-p.invariant.1 (omega arith) (omega arith) (faulty_at_lem _ _ _ _ _ _ _ c.place-q.ensures.value c.is_faulty.ensures) c.if-is_faulty.false)

pub returns : goal.returns
unfolding first_fault scanned
returns c = down_end _ _ _ _ _ _ c.loop-p.invariant.1 (omega arith) (omega arith)
