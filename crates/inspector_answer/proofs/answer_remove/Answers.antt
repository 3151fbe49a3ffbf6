use native.Mathlib.Omega.{arith}
use Rattle.inspector_answer.specs.Answer.{head_counts, sum_fits, answer_short, answer-room, answer_whole}
use borrow.Author.Rules.{rules}
use Rattle.inspector_answer.proofs.answer_remove.Goals as goal

pub inspect_rounds-found-requires : goal.inspect_rounds-found-requires
inspect_rounds-found-requires c =
    let p = c.requires in
    record { order_value = p.order_value; first_value = (c.first_shown-first.ensures, p.low_le_top, search rules) }

pub count_events-events-requires : goal.count_events-events-requires
count_events-events-requires c =
    let p = c.requires in
    let x = c.inspect_rounds-found.ensures.0 in
    record { order_value = p.order_value; first_value = (c.first_shown-first.ensures, p.low_le_top); owed_sizes = (x.size, x.number) }

pub emit_head-head-requires : goal.emit_head-head-requires
emit_head-head-requires c = head_counts _ _ _

pub overflow_add-head : goal.overflow_add-head
overflow_add-head c =
    let l = sum_fits _ _ _ _ c.inspect_rounds-found.ensures.0.stats _ c.count_events-events.ensures.0 _ _ _ _ c.inspect_rounds-found.ensures.1 c.count_events-events.ensures.1 _ c.emit_head-head.ensures in
    omega (arith, l)

pub returns-then-b-head : goal.returns-then-b-head
returns-then-b-head c = answer_short _ _ _ _ c.inspect_rounds-found.ensures.0.stats _ c.count_events-events.ensures.0 _ _ _ _ c.inspect_rounds-found.ensures.1 c.count_events-events.ensures.1 _ c.emit_head-head.ensures c.if-b-head.true

pub emit_answer-requires : goal.emit_answer-requires
emit_answer-requires c =
    let p = c.requires in
    record { order_value = p.order_value; first_value = (c.first_shown-first.ensures, p.low_le_top); signers_hold = c.inspect_rounds-found.ensures.0.signers; low_in_bounds = answer-room _ _ _ _ c.inspect_rounds-found.ensures.0.stats _ c.count_events-events.ensures.0 _ _ _ _ c.inspect_rounds-found.ensures.1 c.count_events-events.ensures.1 _ c.emit_head-head.ensures c.if-b-head.false }

pub returns : goal.returns
returns c = answer_whole _ _ _ _ c.inspect_rounds-found.ensures.0.stats _ c.count_events-events.ensures.0 _ _ _ _ c.inspect_rounds-found.ensures.1 c.count_events-events.ensures.1 _ c.emit_head-head.ensures c.if-b-head.false _ c.emit_answer.ensures
