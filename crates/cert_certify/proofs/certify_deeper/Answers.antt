use native.Mathlib.Omega.{arith}
use Rattle.models.specs.Cert.{height_of}
use Rattle.cert_certify.specs.Model.{deeper-none, deeper_up, deeper-same}
use borrow.Author.Rules.{rules}
use Rattle.cert_certify.proofs.certify_deeper.Goals as goal

-- The target rises if it is lower, and the queue has room for it.
pub returns-then-target-eq0 : goal.returns-then-target-eq0
returns-then-target-eq0 c = deeper-none _ _ _ _ c.if-target-eq0.true

pub overflow_add-height : goal.overflow_add-height
unfolding height_of
overflow_add-height c = search (rules, c.height-height.ensures)

pub offset_bounds-queue-tail : goal.offset_bounds-queue-tail
unfolding height_of
offset_bounds-queue-tail c = search (rules, c.requires.fits.1 (omega arith) (omega (arith, c.height-height.ensures, c.if-height-d.true)))

pub bounds-queue-tail : goal.bounds-queue-tail
unfolding height_of
bounds-queue-tail c = search (rules, c.requires.fits.1 (omega arith) (omega (arith, c.height-height.ensures, c.if-height-d.true)))

pub overflow_add-result : goal.overflow_add-result
unfolding height_of
overflow_add-result c = search (rules, c.requires.fits.1 (omega arith) (omega (arith, c.height-height.ensures, c.if-height-d.true)))

pub returns-then-height-d : goal.returns-then-height-d
returns-then-height-d c = deeper_up _ _ _ _ _ _ c.height-height.ensures c.with_height-higher.ensures c.if-target-eq0.false c.if-height-d.true

pub returns : goal.returns
returns c = deeper-same _ _ _ _ _ c.height-height.ensures c.if-target-eq0.false c.if-height-d.false
