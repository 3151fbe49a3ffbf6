use native.Mathlib.Omega.{arith}
use Rattle.back_walk.specs.Model.{placed, topped, place-fits, needed_at_lem, anchor_no, anchor_is}
use Rattle.std.proofs.lemmas.Result.{err_from_is_err_and}
use Rattle.back_walk.proofs.anchor_at.Goals as goal

pub previous-id-requires : goal.previous-id-requires
previous-id-requires c = let a = c.args in placed a.dag.now.state.now a.dag.now.keys.now a.dag.now.links.now a.dag.now.certs.now a.dag.now.order.now a.p c.requires.walkable c.requires.linked c.requires.used

pub top_proof-top-requires : goal.top_proof-top-requires
top_proof-top-requires c = let a = c.args in topped a.dag.now.state.now a.dag.now.keys.now a.dag.now.links.now a.dag.now.certs.now a.dag.now.order.now _ c.requires.walkable c.requires.linked (needed_at_lem a.dag.now.state.now a.dag.now.keys.now a.dag.now.certs.now a.dag.now.order.now _ _ c.ready_valid_point.ensures _ c.in_ok-q.was)

pub overflow_cast-result : goal.overflow_cast-result
overflow_cast-result c =
    let a = c.args in
    omega (arith, place-fits a.dag.now.state.now a.dag.now.keys.now a.dag.now.certs.now a.dag.now.order.now _ c.requires.walkable (needed_at_lem a.dag.now.state.now a.dag.now.keys.now a.dag.now.certs.now a.dag.now.order.now _ _ c.ready_valid_point.ensures _ c.in_ok-q.was).0)

pub overflow_cast-result-2 : goal.overflow_cast-result-2
overflow_cast-result-2 c = let a = c.args in omega (arith, place-fits a.dag.now.state.now a.dag.now.keys.now a.dag.now.certs.now a.dag.now.order.now a.p c.requires.walkable c.requires.used)

pub returns-in_err-q : goal.returns-in_err-q
returns-in_err-q c = let a = c.args in let p = err_from_is_err_and c.from_residual.result c.from_residual.ensures.1 in rw (p.1, p.2) (anchor_no a.dag.now.state.now a.dag.now.keys.now a.dag.now.links.now a.dag.now.certs.now a.dag.now.order.now a.p a.round.0 _ c.previous-id.ensures _ c.ready_valid_point.ensures _ c.in_err-q.was)

pub returns : goal.returns
returns c = let a = c.args in anchor_is a.dag.now.state.now a.dag.now.keys.now a.dag.now.links.now a.dag.now.certs.now a.dag.now.order.now a.p a.round.0 _ c.previous-id.ensures _ c.ready_valid_point.ensures _ c.in_ok-q.was _ c.top_proof-top.ensures
