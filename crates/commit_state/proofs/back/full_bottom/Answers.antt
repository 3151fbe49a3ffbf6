use mathlib.Core.Path.{◌∙◌}
use Rattle.commit_state.specs.Back.{full_low, full_high}
use Rattle.commit_state.proofs.back.full_bottom.Goals as goal

-- src/back.rt:54:9
pub returns-then-bottom-genesis : goal.returns-then-bottom-genesis
returns-then-bottom-genesis c = search full_low

-- src/back.rt:49:1
pub returns : goal.returns
returns c = c.plus.ensures ∙ full_high _ _ _ c.if-bottom-genesis.false
