use Rattle.inspector_references.specs.Referring.{row_live, row_digest_lem}
use Rattle.inspector_references.proofs.refers_row.Goals as goal

pub returns-then-live : goal.returns-then-live
returns-then-live c = row_live _ _ _ _ _ _ _ _ c.if-live.true c.slot-author.ensures c.target.ensures

pub returns : goal.returns
returns c = row_digest_lem _ _ _ _ _ _ _ c.if-live.false c.refers.ensures
