use Rattle.trace_write.specs.Points.{name_said}
use Rattle.trace_write.proofs.points.put_name.Goals as goal

pub returns : goal.returns
returns c = c.put_named.ensures _ (name_said _)
