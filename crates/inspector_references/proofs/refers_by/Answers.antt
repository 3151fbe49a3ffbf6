use mathlib.Core.Path.{sym, ◌∙◌}
use Rattle.inspector_references.specs.Refs.{refers-none, refers_there}
use Rattle.inspector_references.proofs.refers_by.Goals as goal

pub returns-then-target-eq0 : goal.returns-then-target-eq0
returns-then-target-eq0 c = sym (refers-none _ _ _ _ _ c.target.ensures c.if-target-eq0.true)

pub returns : goal.returns
returns c = c.same_digest.ensures ∙ sym (refers_there _ _ _ _ _ c.target.ensures c.if-target-eq0.false)
