use native.Mathlib.Omega.{arith}
use Rattle.trace_write.proofs.Puts.{put_refused, put-done}
use Rattle.trace_write.proofs.Puts.{head_room}
use Rattle.trace_write.specs.Points.{commit_said, commit-put}
use Rattle.trace_write.proofs.points.put_commit.Goals as goal

pub returns-then-refused-ne0 : goal.returns-then-refused-ne0
returns-then-refused-ne0 c = λ room. put_refused (commit_said _ _ (λ p. (c.shared_slice_known-1.given p).fits) room _ c.id_fits-fits.ensures) _ _ _ c.put_head-refused.ensures c.if-refused-ne0.true

pub put_point-next-requires : goal.put_point-next-requires
put_point-next-requires c = omega (arith, head_room _ _ _ _ _ _ c.put_head-refused.ensures c.if-refused-ne0.false)

pub put_bytes-length-requires : goal.put_bytes-length-requires
put_bytes-length-requires c = omega (arith, head_room _ _ _ _ _ _ c.put_head-refused.ensures c.if-refused-ne0.false, c.put_point-next.ensures.0)

pub returns : goal.returns
returns c = λ room. put-done (commit_said _ _ (λ p. (c.shared_slice_known-1.given p).fits) room _ c.id_fits-fits.ensures) _ _ _ c.put_head-refused.ensures _ _ c.if-refused-ne0.false (omega (arith, c.put_bytes-length.ensures.0, c.put_point-next.ensures.0)) (commit-put _ _ (λ p. (c.shared_slice_known-1.given p).fits) _ _ _ _ _ c.put_point-next.ensures.1 c.put_point-next.ensures.0 c.put_bytes-length.ensures.1)
