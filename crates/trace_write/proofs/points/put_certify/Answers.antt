use Rattle.trace_write.specs.Points.{certify_said}
use Rattle.trace_write.proofs.points.put_certify.Goals as goal

pub returns : goal.returns
returns c = c.put_named.ensures _ (certify_said _)
