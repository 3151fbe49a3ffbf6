use Rattle.trace.specs.Fields.{used_none, used_some}
use Rattle.trace.proofs.fields.used_of.Goals as goal

pub returns-then-byte-eq-NOBODY : goal.returns-then-byte-eq-NOBODY
returns-then-byte-eq-NOBODY c = used_none _ c.if-byte-eq-NOBODY.true

pub returns : goal.returns
returns c = used_some _ c.if-byte-eq-NOBODY.false
