use native.Mathlib.Omega.{arith}
use Rattle.inspector_signers.specs.Signers.{id-round, id-author, id_digest, id_sent}
use borrow.Author.Rules.{rules}
use Rattle.inspector_signers.proofs.emit_row_id.Goals as goal

pub emit_number-a1-requires : goal.emit_number-a1-requires
emit_number-a1-requires c = (id-round _ _ _ _ _ _ c.requires.0, omega arith)

pub emit_number-a2-requires : goal.emit_number-a2-requires
emit_number-a2-requires c = (id-author _ _ _ _ _ _ c.requires.0 _ _ c.emit_number-a1.ensures, omega arith)

pub emit_digest-requires : goal.emit_digest-requires
emit_digest-requires c =
    (id_digest _ _ _ _ _ _ c.requires.0 _ _ c.emit_number-a1.ensures _ _ c.emit_number-a2.ensures, search rules)

pub returns : goal.returns
returns c = id_sent _ _ _ _ _ _ c.requires.0 _ _ c.emit_number-a1.ensures _ _ c.emit_number-a2.ensures _ _ c.emit_digest.ensures
