use native.Mathlib.Omega.{arith}
use Rattle.trace_write.specs.Resolve.{count_fields}
use Rattle.trace_write.specs.Fields.{put-more, put_last}
use Rattle.trace_write.proofs.resolve.put_counts.Goals as goal

pub returns : goal.returns
unfolding count_fields
returns c = (omega (arith, c.put_number.ensures.0, c.put_number-witness.ensures.0, c.put_number-includes.ensures.0), put-more _ _ _ _ _ _ _ _ c.put_number-includes.ensures.1 c.put_number-includes.ensures.0 (put-more _ _ _ _ _ _ _ _ c.put_number-witness.ensures.1 c.put_number-witness.ensures.0 (put_last _ _ _ _ _ c.put_number.ensures.1)))
