use mathlib.Core.Path.{refl}
use native.Mathlib.Omega.{arith}
use Rattle.inspector_signers.specs.Signers.{signer_of, signer_count, signer_kind, signer_author, signer_blamed, signer_proofs, signer_told}
use Rattle.inspector_signers.proofs.emit_signer.Goals as goal

pub emit_number-a1-requires : goal.emit_number-a1-requires
unfolding signer_of
emit_number-a1-requires c = (signer_kind _ _ _ _ _ _ c.requires.ready, omega arith)

pub emit_number-a2-requires : goal.emit_number-a2-requires
unfolding signer_of
emit_number-a2-requires c = (signer_author _ _ _ _ _ _ c.requires.ready _ _ c.emit_number-a1.ensures, omega arith)

pub emit_blamed-a3-requires : goal.emit_blamed-a3-requires
unfolding signer_of
emit_blamed-a3-requires c =
    let p = c.requires in
    record { m_in_bounds = p.m_in_bounds; n_in_bounds = p.n_in_bounds; fact = signer_blamed _ _ _ _ _ _ p.ready _ _ c.emit_number-a1.ensures _ _ c.emit_number-a2.ensures }

pub emit_proofs-at-requires : goal.emit_proofs-at-requires
unfolding signer_of
emit_proofs-at-requires c =
    let p = c.requires in
    record { n_in_bounds = p.n_in_bounds; fact = signer_proofs _ _ _ _ _ _ p.ready _ _ c.emit_number-a1.ensures _ _ c.emit_number-a2.ensures _ _ c.emit_blamed-a3.ensures }

pub overflow_add-result : goal.overflow_add-result
unfolding signer_of
overflow_add-result c = let l = signer_count _ _ _ _ _ _ c.requires.ready in omega (arith, l)

pub returns : goal.returns
unfolding signer_of
returns c =
    signer_told _ _ _ _ _ _ c.requires.ready _ _ c.emit_number-a1.ensures _ _ c.emit_number-a2.ensures _ _ c.emit_blamed-a3.ensures _ _ c.emit_proofs-at.ensures refl
