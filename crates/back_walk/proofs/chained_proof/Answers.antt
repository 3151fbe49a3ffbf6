use Prim.Native.Nat.{ℕ, ◌%◌}
use mathlib.Core.Path.{sym, ap, ◌∙◌}
use Rattle.models.specs.Ids.{Placed}
use Rattle.back_walk.specs.Model.{placed, needed_at_lem, proof_no, proof_unmarked, proof_first, proof_is}
use borrow.Author.Rules.{rules}
use Rattle.std.proofs.lemmas.Result.{err_from_is_err_and}
use Rattle.back_walk.proofs.chained_proof.Goals as goal

pub marks_at-requires : goal.marks_at-requires
marks_at-requires c = let a = c.args in let h : Placed a.dag.now.keys.now a.dag.now.links.now _ = placed a.dag.now.state.now a.dag.now.keys.now a.dag.now.links.now a.dag.now.certs.now a.dag.now.order.now _ c.requires.walkable c.requires.linked (needed_at_lem a.dag.now.state.now a.dag.now.keys.now a.dag.now.certs.now a.dag.now.order.now a.id _ c.ready_valid_point.ensures _ c.in_ok-p.was).0 in search rules

pub returns-then-marks_at-eq0 : goal.returns-then-marks_at-eq0
returns-then-marks_at-eq0 c = let a = c.args in proof_unmarked a.dag.now.state.now a.dag.now.keys.now a.dag.now.links.now a.dag.now.certs.now a.dag.now.order.now a.id _ c.ready_valid_point.ensures _ c.in_ok-p.was (ap (λ (x : ℕ). x % 2) (sym c.marks_at.ensures) ∙ c.if-marks_at-eq0.true)

pub has_previous-requires : goal.has_previous-requires
has_previous-requires c = let a = c.args in let h : Placed a.dag.now.keys.now a.dag.now.links.now _ = placed a.dag.now.state.now a.dag.now.keys.now a.dag.now.links.now a.dag.now.certs.now a.dag.now.order.now _ c.requires.walkable c.requires.linked (needed_at_lem a.dag.now.state.now a.dag.now.keys.now a.dag.now.certs.now a.dag.now.order.now a.id _ c.ready_valid_point.ensures _ c.in_ok-p.was).0 in h

pub returns-then-not-has_previous : goal.returns-then-not-has_previous
returns-then-not-has_previous c = let a = c.args in proof_first a.dag.now.state.now a.dag.now.keys.now a.dag.now.links.now a.dag.now.certs.now a.dag.now.order.now a.id _ c.ready_valid_point.ensures _ c.in_ok-p.was (λ e. c.if-marks_at-eq0.false (ap (λ (x : ℕ). x % 2) c.marks_at.ensures ∙ e)) _ c.has_previous.ensures c.if-not-has_previous.true-raw

pub returns-in_err-p : goal.returns-in_err-p
returns-in_err-p c = let a = c.args in let p = err_from_is_err_and c.from_residual.result c.from_residual.ensures.1 in rw (p.1, p.2) (proof_no a.dag.now.state.now a.dag.now.keys.now a.dag.now.links.now a.dag.now.certs.now a.dag.now.order.now a.id _ c.ready_valid_point.ensures _ c.in_err-p.was)

pub returns : goal.returns
returns c = let a = c.args in proof_is a.dag.now.state.now a.dag.now.keys.now a.dag.now.links.now a.dag.now.certs.now a.dag.now.order.now a.id _ c.ready_valid_point.ensures _ c.in_ok-p.was (λ e. c.if-marks_at-eq0.false (ap (λ (x : ℕ). x % 2) c.marks_at.ensures ∙ e)) _ c.has_previous.ensures c.if-not-has_previous.false-raw
