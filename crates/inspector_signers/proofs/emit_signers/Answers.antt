use mathlib.Core.Path.{refl}
use native.Mathlib.Omega.{arith}
use borrow.Author.Tests.{eq-eqb, ne_eqb}
use Rattle.laws.specs.Peers.{member}
use Rattle.inspector_events.specs.Told.{passing-none, passing-yes, passing_no, passing_ready, passing_end}
use Rattle.inspector_signers.proofs.emit_signers.Goals as goal
use Rattle.inspector_signers.proofs.emit_signers.Goals.{then-signers-signer-eq1, else-signers-signer-eq1}

pub loop-signer-init : goal.loop-signer-init
loop-signer-init c = passing-none _ _ _ _ _ _ _

pub emit_signer-out-requires : goal.emit_signer-out-requires
unfolding member
emit_signer-out-requires c =
    let p = c.requires in
    let l = c.loop-signer in
    let h = c.loop-signer-test.true in
    record { m_in_bounds = p.m_in_bounds; n_in_bounds = (p.n_in_bounds.0, p.n_in_bounds.1, h); ready = passing_ready _ _ _ _ _ _ _ l.signer _ _ l.invariant _ refl _ refl _ h (eq-eqb _ _ c.if-signers-signer-eq1.true) p.ready }

pub loop-signer-preserved : goal.loop-signer-preserved
unfolding member
loop-signer-preserved c =
    let l = c.loop-signer in
    elim c.if-signers-signer-eq1.branch [ then-signers-signer-eq1 w ↦ passing-yes _ _ _ _ _ _ _ _ _ _ l.invariant _ refl _ refl _ _ _ _ (eq-eqb _ _ w.if-signers-signer-eq1.true) w.emit_signer-out.ensures w.out-is w.b-is | else-signers-signer-eq1 w ↦ passing_no _ _ _ _ _ _ _ _ _ _ l.invariant _ refl _ refl _ _ (ne_eqb _ _ w.if-signers-signer-eq1.false) w.out-is w.b-is ]

pub returns : goal.returns
returns c = passing_end _ _ _ _ _ _ _ _ _ _ c.loop-signer.invariant _ (omega arith)
