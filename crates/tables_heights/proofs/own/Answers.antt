use mathlib.Core.Path.{sym, ◌∙◌}
use Rattle.models.specs.Cert.{flags_of}
use Rattle.tables_heights.specs.View.{own_top, own-none}
use Rattle.tables_heights.proofs.own.Goals as goal

-- `tables_heights::own` meets its contract.
pub returns-then-is_top : goal.returns-then-is_top
unfolding flags_of
returns-then-is_top c = sym (own_top _ _ (sym c.is_top.ensures ∙ c.if-is_top.true))

pub returns-else-is_top : goal.returns-else-is_top
unfolding flags_of
returns-else-is_top c = sym (own-none _ _ (sym c.is_top.ensures ∙ c.if-is_top.false))
