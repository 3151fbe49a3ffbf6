use Rattle.inspector_not_referenced.specs.Later.{same_none, same_some}
use Rattle.inspector_not_referenced.proofs.same_previous.Goals as goal

pub returns-then-previous-eq0 : goal.returns-then-previous-eq0
returns-then-previous-eq0 c = same_none _ _ _ c.if-previous-eq0.true

pub returns : goal.returns
returns c = same_some _ _ _ _ c.if-previous-eq0.false c.same_digest.ensures
