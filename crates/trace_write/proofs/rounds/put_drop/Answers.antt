use native.Mathlib.Omega.{arith}
use Rattle.trace_write.proofs.Puts.{put_refused, put-done}
use Rattle.trace_write.proofs.Puts.{head_room}
use Rattle.trace_write.specs.Rounds.{drop_said}
use Rattle.trace_write.specs.Fields.{put_last}
use borrow.Author.Rules.{rules}
use Rattle.trace_write.proofs.rounds.put_drop.Goals as goal

pub returns-then-refused-ne0 : goal.returns-then-refused-ne0
returns-then-refused-ne0 c = put_refused (drop_said _ (search rules)) _ _ _ c.put_head-refused.ensures c.if-refused-ne0.true

pub put_number-length-requires : goal.put_number-length-requires
put_number-length-requires c = omega (arith, head_room _ _ _ _ _ _ c.put_head-refused.ensures c.if-refused-ne0.false)

pub returns : goal.returns
returns c = put-done (drop_said _ (search rules)) _ _ _ c.put_head-refused.ensures _ _ c.if-refused-ne0.false c.put_number-length.ensures.0 (put_last _ _ _ _ _ c.put_number-length.ensures.1)
