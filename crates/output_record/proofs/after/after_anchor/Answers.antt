use mathlib.Core.Path.{refl, sym, ◌∙◌}
use Rattle.commit_state.specs.View.{record_of}
use Rattle.output_record.specs.ModelState.{after_state}
use Rattle.output_record.proofs.after.after_anchor.Goals as goal

pub returns-then-first : goal.returns-then-first
unfolding after_state record_of
returns-then-first c = rw (sym c.is_first_executable-first.ensures ∙ c.if-first.true) refl

pub returns-else-first : goal.returns-else-first
unfolding after_state record_of
returns-else-first c = rw (sym c.is_first_executable-first.ensures ∙ c.if-first.false) refl
