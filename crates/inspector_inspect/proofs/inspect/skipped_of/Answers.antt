use Rattle.inspector_inspect.specs.Inspected.{skipped_in, skipped_out}
use Rattle.inspector_inspect.proofs.inspect.skipped_of.Goals as goal

pub returns-then-signers-a-eq1 : goal.returns-then-signers-a-eq1
returns-then-signers-a-eq1 c = skipped_in _ _ _ _ _ c.if-signers-a-eq1.true c.references_skipped.ensures

pub returns : goal.returns
returns c = skipped_out _ _ _ _ c.if-signers-a-eq1.false
