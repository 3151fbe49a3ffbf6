use Rattle.laws.specs.Peers.{member}
use Rattle.inspector_signers.specs.Signers.{row_proof, row-own}
use Rattle.inspector_signers.proofs.row_passes.Goals as goal

pub returns-then-proofs : goal.returns-then-proofs
unfolding member
returns-then-proofs c = row_proof _ _ _ _ _ c.if-proofs.true

pub returns : goal.returns
returns c = row-own _ _ _ _ _ c.if-proofs.false
