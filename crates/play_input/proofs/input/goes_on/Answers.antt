use Rattle.play_input.specs.Fed.{on_refused, on_last, on_more}
use Rattle.play_input.proofs.input.goes_on.Goals as goal

pub returns-then-code-ne0 : goal.returns-then-code-ne0
returns-then-code-ne0 c = on_refused c.args.code c.args.left c.args.last c.if-code-ne0.true

pub returns-then-last : goal.returns-then-last
returns-then-last c = on_last c.args.code c.args.left c.args.last c.if-code-ne0.false c.if-last.true

pub returns : goal.returns
returns c = on_more c.args.code c.args.left c.args.last c.if-code-ne0.false c.if-last.false
