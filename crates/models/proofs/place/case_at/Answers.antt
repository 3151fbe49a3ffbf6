use mathlib.Core.Path.{ap, ◌∙◌}
use Rattle.models.specs.DagPoint.{case_of}
use Rattle.models.proofs.place.case_at.Goals as goal

pub returns : goal.returns
returns c = c.of_status.ensures ∙ ap case_of c.status.ensures
