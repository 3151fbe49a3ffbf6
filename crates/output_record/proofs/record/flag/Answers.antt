use Rattle.output_record.specs.Model.{flag-yes, flag_no}
use Rattle.output_record.proofs.record.flag.Goals as goal

pub returns-then-x : goal.returns-then-x
returns-then-x c = flag-yes _ c.if-x.true

pub returns-else-x : goal.returns-else-x
returns-else-x c = flag_no _ c.if-x.false
