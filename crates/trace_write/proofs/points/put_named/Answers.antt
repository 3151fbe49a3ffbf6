use native.Mathlib.Omega.{arith}
use Rattle.trace_write.specs.Puts.{said_as}
use Rattle.trace_write.proofs.Puts.{put_refused, put-done}
use Rattle.trace_write.proofs.Puts.{head_room}
use Rattle.trace_write.specs.Fields.{put_id, put-none}
use Rattle.trace_write.proofs.points.put_named.Goals as goal

pub returns-then-refused-ne0 : goal.returns-then-refused-ne0
returns-then-refused-ne0 c = λ o s. put_refused (said_as c.id_fits-fits.ensures s) _ _ _ c.put_head-refused.ensures c.if-refused-ne0.true

pub put_point-length-requires : goal.put_point-length-requires
put_point-length-requires c = omega (arith, head_room _ _ _ _ _ _ c.put_head-refused.ensures c.if-refused-ne0.false)

pub returns : goal.returns
returns c = λ o s. put-done (said_as c.id_fits-fits.ensures s) _ _ _ c.put_head-refused.ensures _ _ c.if-refused-ne0.false c.put_point-length.ensures.0 (put_id _ _ _ _ _ _ _ c.put_point-length.ensures.1 c.put_point-length.ensures.0 (put-none _ _))
