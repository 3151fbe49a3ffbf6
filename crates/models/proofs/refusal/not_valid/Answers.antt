use Rattle.models.specs.Refusal.{invalid_certified, invalid_flat}
use Rattle.models.proofs.refusal.not_valid.Goals as goal

-- src/refusal.rt:90:9
pub returns-then-is_certified : goal.returns-then-is_certified
returns-then-is_certified c = invalid_certified _ _ _ c.is_certified.ensures c.if-is_certified.true

-- src/refusal.rt:86:1
pub returns : goal.returns
returns c = invalid_flat _ _ _ c.is_certified.ensures c.if-is_certified.false
