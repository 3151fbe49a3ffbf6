use Rattle.trace.proofs.CodeAt.{record_bad, record_good}
use Rattle.trace.proofs.head.whole_record.Goals as goal

pub returns-then-code-ne0 : goal.returns-then-code-ne0
returns-then-code-ne0 c = record_bad _ _ _ _ c.whole_code-code.ensures c.if-code-ne0.true

pub returns : goal.returns
returns c = record_good _ _ _ _ _ _ c.whole_code-code.ensures c.if-code-ne0.false c.byte_of-kind.ensures.0 c.requires.rest_value.0
