use Rattle.output_record.specs.Model.{previous-genesis, previous-first, previous_is}
use Rattle.output_record.proofs.record.previous_anchor.Goals as goal

pub returns-then-below-genesis : goal.returns-then-below-genesis
returns-then-below-genesis c = previous-genesis _ _ _ _ c.prev-below.ensures c.if-below-genesis.true

pub returns-then-is_first_executable : goal.returns-then-is_first_executable
returns-then-is_first_executable c =
    previous-first _ _ _ _ c.prev-below.ensures c.if-below-genesis.false _ c.is_first_executable.ensures c.if-is_first_executable.true

pub returns : goal.returns
returns c =
    previous_is _ _ _ _ c.prev-below.ensures c.if-below-genesis.false _ c.is_first_executable.ensures c.if-is_first_executable.false
