use Rattle.dag_round_points.specs.Model.{version_not, version_by}
use Rattle.dag_round_points.proofs.is_version.Goals as goal

pub returns-then-r-round : goal.returns-then-r-round
returns-then-r-round c = search version_not

pub returns : goal.returns
returns c = search version_by
