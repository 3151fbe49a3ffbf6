use Rattle.output_record.specs.Model.{first_no, first-yes}
use Rattle.output_record.proofs.record.is_first_executable.Goals as goal

pub returns-then-s-le1 : goal.returns-then-s-le1
returns-then-s-le1 c = first_no _ _ c.if-s-le1.true

pub returns : goal.returns
returns c = first-yes _ _ c.if-s-le1.false _ c.executable.ensures
