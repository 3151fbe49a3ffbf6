use mathlib.Core.Path.{sym, ◌∙◌}
use Rattle.inspector_counters.specs.Count.{passes_not, passes_by}
use Rattle.inspector_counters.proofs.tests.passes.Goals as goal

pub returns-then-by-author : goal.returns-then-by-author
returns-then-by-author c = passes_not _ _ _ _ _ (λ e. c.if-by-author.true (c.author-by.ensures ∙ e))

pub returns : goal.returns
returns c = passes_by _ _ _ _ _ _ _ _ (sym c.author-by.ensures ∙ c.if-by-author.false) c.version_at-version.ensures c.inspect-passed.ensures c.by.ensures
