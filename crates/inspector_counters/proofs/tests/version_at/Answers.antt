use Rattle.inspector_counters.specs.Tests.{version_is}
use Rattle.inspector_counters.proofs.tests.version_at.Goals as goal

pub returns : goal.returns
returns c = version_is _ _ _ _ _ _ _ c.marks_at-marks.ensures c.look_place-look.ensures c.is_certified-certified.ensures c.has_proof-proved.ensures
