use Rattle.lines.specs.Said.{refusal-done, refusal_said, refusal-handed, refusal-refused}
use Rattle.lines.proofs.said.put_refusal.Goals as goal

pub returns-in-Refused : goal.returns-in-Refused
returns-in-Refused c = refusal-refused _ _ _ _ _ _ _ _ c.in-Refused.is c.refusal_number-n.ensures c.put_refused.ensures

pub returns-in-Done : goal.returns-in-Done
returns-in-Done c = refusal-done _ _ _ c.in-Done.is

pub returns-in-Flag : goal.returns-in-Flag
returns-in-Flag c = refusal_said _ _ _ _ c.in-Flag.is

pub returns-in-Anchors : goal.returns-in-Anchors
returns-in-Anchors c = refusal-handed _ _ _ _ c.in-Anchors.is
