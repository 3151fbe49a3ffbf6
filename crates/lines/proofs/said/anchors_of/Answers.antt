use Rattle.lines.specs.Said.{anchors-done, anchors_said, anchors-handed, anchors-refused}
use Rattle.lines.proofs.said.anchors_of.Goals as goal

pub returns-in-Done : goal.returns-in-Done
returns-in-Done c = anchors-done _ c.in-Done.is

pub returns-in-Flag : goal.returns-in-Flag
returns-in-Flag c = anchors_said _ _ c.in-Flag.is

pub returns-in-Anchors : goal.returns-in-Anchors
returns-in-Anchors c = anchors-handed _ _ c.in-Anchors.is

pub returns-in-Refused : goal.returns-in-Refused
returns-in-Refused c = anchors-refused _ _ _ c.in-Refused.is
