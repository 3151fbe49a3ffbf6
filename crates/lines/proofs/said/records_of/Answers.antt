use Rattle.lines.specs.Said.{records_commit, records_none}
use Rattle.lines.proofs.said.records_of.Goals as goal

pub returns-then-kind-eq-COMMIT : goal.returns-then-kind-eq-COMMIT
returns-then-kind-eq-COMMIT c = records_commit _ _ _ c.if-kind-eq-COMMIT.true c.anchors_of.ensures

pub returns : goal.returns
returns c = records_none _ 0 _ c.if-kind-eq-COMMIT.false
