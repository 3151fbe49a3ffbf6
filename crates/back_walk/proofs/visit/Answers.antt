use Rattle.commit_state.specs.View.{record_of}
use Rattle.back_walk.specs.Model.{step-pass, step_above, step_used, step-bad, step_low, step_on, proof_used}
use Rattle.std.proofs.lemmas.Result.{err_from_is_err_and}
use Rattle.back_walk.proofs.visit.Goals as goal

pub returns-then-round-x : goal.returns-then-round-x
returns-then-round-x c = let a = c.args in step-pass a.dag.now.state.now a.dag.now.keys.now a.dag.now.links.now a.dag.now.certs.now a.dag.now.order.now a.low.0 a.x.0 a.id c.if-round-x.true

pub returns-then-x-round : goal.returns-then-x-round
returns-then-x-round c = let a = c.args in step_above a.dag.now.state.now a.dag.now.keys.now a.dag.now.links.now a.dag.now.certs.now a.dag.now.order.now a.low.0 a.x.0 a.id c.if-round-x.false c.if-x-round.true

pub returns-then-used-ne0 : goal.returns-then-used-ne0
unfolding record_of
returns-then-used-ne0 c = let a = c.args in step_used a.dag.now.state.now a.dag.now.keys.now a.dag.now.links.now a.dag.now.certs.now a.dag.now.order.now a.low.0 a.x.0 a.id c.if-round-x.false c.if-x-round.false c.if-used-ne0.true _ c.at_used.ensures

pub returns-then-x-low : goal.returns-then-x-low
unfolding record_of
returns-then-x-low c = let a = c.args in step_low a.dag.now.state.now a.dag.now.keys.now a.dag.now.links.now a.dag.now.certs.now a.dag.now.order.now a.low.0 a.x.0 a.id c.if-round-x.false c.if-x-round.false c.if-used-ne0.false _ c.chained_proof.ensures _ c.in_ok-p.was c.if-x-low.true

pub anchor_at-requires : goal.anchor_at-requires
anchor_at-requires c = let a = c.args in record { walkable = c.requires.walkable; linked = c.requires.linked; used = proof_used a.dag.now.state.now a.dag.now.keys.now a.dag.now.certs.now a.dag.now.order.now a.id a.dag.now.links.now _ c.chained_proof.ensures _ c.in_ok-p.was }

pub returns-in_err-p : goal.returns-in_err-p
unfolding record_of
returns-in_err-p c = let a = c.args in let p = err_from_is_err_and c.from_residual.result c.from_residual.ensures.1 in rw (p.1, p.2) (step-bad a.dag.now.state.now a.dag.now.keys.now a.dag.now.links.now a.dag.now.certs.now a.dag.now.order.now a.low.0 a.x.0 a.id c.if-round-x.false c.if-x-round.false c.if-used-ne0.false _ c.chained_proof.ensures _ c.in_err-p.was)

pub returns : goal.returns
unfolding record_of
returns c = let a = c.args in step_on a.dag.now.state.now a.dag.now.keys.now a.dag.now.links.now a.dag.now.certs.now a.dag.now.order.now a.low.0 a.x.0 a.id c.if-round-x.false c.if-x-round.false c.if-used-ne0.false _ c.chained_proof.ensures _ c.in_ok-p.was c.if-x-low.false _ c.prev.ensures _ c.anchor_at.ensures
