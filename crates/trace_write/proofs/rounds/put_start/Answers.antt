use native.Mathlib.Omega.{arith}
use Rattle.trace_write.proofs.Puts.{put_refused, put-done}
use Rattle.trace_write.proofs.Puts.{head_room}
use Rattle.trace_write.specs.Rounds.{start_said, start-put}
use borrow.Author.Rules.{rules}
use Rattle.trace_write.proofs.rounds.put_start.Goals as goal

pub returns-then-refused-ne0 : goal.returns-then-refused-ne0
returns-then-refused-ne0 c = put_refused (start_said _ _ c.used_fits-fits.ensures (search rules) (search rules) (search rules) (search rules) (search rules)) _ _ _ c.put_head-refused.ensures c.if-refused-ne0.true

pub put_conf-bottom-requires : goal.put_conf-bottom-requires
put_conf-bottom-requires c = omega (arith, head_room _ _ _ _ _ _ c.put_head-refused.ensures c.if-refused-ne0.false)

pub put_bottom-length-requires : goal.put_bottom-length-requires
put_bottom-length-requires c = omega (arith, head_room _ _ _ _ _ _ c.put_head-refused.ensures c.if-refused-ne0.false)

pub returns : goal.returns
returns c = put-done (start_said _ _ c.used_fits-fits.ensures (search rules) (search rules) (search rules) (search rules) (search rules)) _ _ _ c.put_head-refused.ensures _ _ c.if-refused-ne0.false (omega (arith, c.put_bottom-length.ensures.0, c.put_conf-bottom.ensures.0)) (start-put _ _ _ _ _ c.put_conf-bottom.ensures.0 c.put_conf-bottom.ensures.1 c.put_bottom-length.ensures.1)
