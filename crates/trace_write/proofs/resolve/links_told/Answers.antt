use Rattle.trace_write.specs.Resolve.{told-includes, told_witness, told-words}
use Rattle.trace_write.proofs.resolve.links_told.Goals as goal

pub returns-then-includes-gt-LINKS_MAX : goal.returns-then-includes-gt-LINKS_MAX
returns-then-includes-gt-LINKS_MAX c = told-includes _ _ _ c.if-includes-gt-LINKS_MAX.true

pub returns-then-witness-gt-LINKS_MAX : goal.returns-then-witness-gt-LINKS_MAX
returns-then-witness-gt-LINKS_MAX c = told_witness _ _ _ c.if-witness-gt-LINKS_MAX.true

pub returns : goal.returns
returns c = told-words _ _ _ c.if-includes-gt-LINKS_MAX.false c.if-witness-gt-LINKS_MAX.false
