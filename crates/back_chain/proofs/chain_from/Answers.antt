use Rattle.back_walk.specs.Model.{placed}
use Rattle.back_chain.specs.Model.{from_none, from_bad, from_walk}
use Rattle.std.proofs.lemmas.Result.{err_from_is_err_and}
use borrow.Author.Rules.{rules}
use Rattle.back_chain.proofs.chain_from.Goals as goal

pub has_previous-requires : goal.has_previous-requires
has_previous-requires c = let a = c.args in placed a.dag.now.state.now a.dag.now.keys.now a.dag.now.links.now a.dag.now.certs.now a.dag.now.order.now _ c.requires.walkable c.requires.linked c.requires.used

pub returns-then-not-has_previous : goal.returns-then-not-has_previous
returns-then-not-has_previous c = record { result_value = from_none _ _ _ _ _ _ _ _ _ c.has_previous.ensures c.if-not-has_previous.true-raw; count_bound = tt }

pub previous-first-requires : goal.previous-first-requires
previous-first-requires c = let a = c.args in placed a.dag.now.state.now a.dag.now.keys.now a.dag.now.links.now a.dag.now.certs.now a.dag.now.order.now _ c.requires.walkable c.requires.linked c.requires.used

pub anchor_chain-requires : goal.anchor_chain-requires
anchor_chain-requires c = record { walkable = c.requires.walkable; linked = c.requires.linked; span_bound = (c.requires.low_lt_round.1, search rules) }

pub check_oldest-requires : goal.check_oldest-requires
check_oldest-requires c = c.in_ok-c.ensures.count_bound

pub returns : goal.returns
returns c = record { result_value = from_walk _ _ _ _ _ _ _ _ _ c.has_previous.ensures c.if-not-has_previous.false-raw _ c.prev.ensures _ c.previous-first.ensures _ c.anchor_chain.ensures.result_value _ c.in_ok-c.was _ c.check_oldest.ensures.result_value; count_bound = c.check_oldest.ensures.count_bound }

pub returns-in_err-c : goal.returns-in_err-c
returns-in_err-c c =
    let p = err_from_is_err_and c.from_residual.result c.from_residual.ensures.1 in
    rw (p.1, p.2) (record { result_value = from_bad _ _ _ _ _ _ _ _ _ c.has_previous.ensures c.if-not-has_previous.false-raw _ c.prev.ensures _ c.previous-first.ensures _ c.anchor_chain.ensures.result_value _ c.in_err-c.was; count_bound = tt })
