use native.Mathlib.Omega.{arith}
use Rattle.trace_write.proofs.Puts.{put_refused, put-done}
use Rattle.trace_write.proofs.Puts.{head_room}
use Rattle.trace_write.specs.Rounds.{remove_said}
use Rattle.trace_write.specs.Fields.{put-more, put_last, put_as}
use borrow.Author.Rules.{rules}
use Rattle.trace_write.proofs.rounds.put_remove.Goals as goal

pub returns-then-refused-ne0 : goal.returns-then-refused-ne0
returns-then-refused-ne0 c = λ room. put_refused (remove_said _ _ room (search rules) (omega (arith, c.since_round-first.ensures))) _ _ _ c.put_head-refused.ensures c.if-refused-ne0.true

pub put_number-flag-requires : goal.put_number-flag-requires
put_number-flag-requires c = omega (arith, head_room _ _ _ _ _ _ c.put_head-refused.ensures c.if-refused-ne0.false)

pub put_number-next-requires : goal.put_number-next-requires
put_number-next-requires c = omega (arith, head_room _ _ _ _ _ _ c.put_head-refused.ensures c.if-refused-ne0.false)

pub put_number-length-requires : goal.put_number-length-requires
put_number-length-requires c = omega (arith, head_room _ _ _ _ _ _ c.put_head-refused.ensures c.if-refused-ne0.false)

pub returns : goal.returns
returns c = λ room. put-done (remove_said _ _ room (search rules) (omega (arith, c.since_round-first.ensures))) _ _ _ c.put_head-refused.ensures _ _ c.if-refused-ne0.false (omega (arith, c.put_number-length.ensures.0, c.put_number-next.ensures.0, c.put_number-flag.ensures.0)) (put-more _ _ _ _ _ _ _ _ c.put_number-flag.ensures.1 c.put_number-flag.ensures.0 (put-more _ _ _ _ _ _ _ _ (put_as _ _ _ _ _ _ c.since_flag.ensures c.put_number-next.ensures.1) c.put_number-next.ensures.0 (put_last _ _ _ _ _ (put_as _ _ _ _ _ _ c.since_round-first.ensures c.put_number-length.ensures.1))))
