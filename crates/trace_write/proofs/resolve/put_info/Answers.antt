use native.Mathlib.Omega.{arith}
use Rattle.trace_write.specs.Resolve.{info_fields}
use Rattle.trace_write.specs.Fields.{put_id, put-more, put_as}
use Rattle.trace_write.proofs.resolve.put_info.Goals as goal

pub returns : goal.returns
unfolding info_fields
returns c = (omega (arith, c.put_counts.ensures.0, c.put_point-counts.ensures.0, c.put_number-top.ensures.0, c.put_number-next.ensures.0, c.put_point-status.ensures.0), put_id _ _ _ _ _ _ _ c.put_point-status.ensures.1 c.put_point-status.ensures.0 (put-more _ _ _ _ _ _ _ _ c.put_number-next.ensures.1 c.put_number-next.ensures.0 (put-more _ _ _ _ _ _ _ _ (put_as _ _ _ _ _ _ c.marks_of-marks.ensures c.put_number-top.ensures.1) c.put_number-top.ensures.0 (put_id _ _ _ _ _ _ _ c.put_point-counts.ensures.1 c.put_point-counts.ensures.0 c.put_counts.ensures.1))))
