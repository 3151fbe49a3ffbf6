use Rattle.inspector_inspect.specs.Owed.{last_bottom, last_above}
use Rattle.inspector_inspect.proofs.round.last_before.Goals as goal

pub returns-then-round-bottom : goal.returns-then-round-bottom
returns-then-round-bottom c = last_bottom c.args.s.now c.args.round.0 c.if-round-bottom.true

pub returns : goal.returns
returns c = last_above c.args.s.now c.args.round.0 _ c.if-round-bottom.false c.prev.ensures
