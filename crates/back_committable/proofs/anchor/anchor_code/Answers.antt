use Rattle.back_history.specs.Supposing.{supposing}
use Rattle.back_committable.proofs.ModelPoints.{found_by_lem}
use Rattle.back_committable.proofs.Model.{code_genesis, code_fault, code_missing, code_flat, code_none}
use Rattle.std.proofs.lemmas.Result.{err_from_is_err_and}
use Rattle.back_committable.proofs.anchor.anchor_code.Goals as goal

pub returns-then-round-genesis : goal.returns-then-round-genesis
returns-then-round-genesis c =
    let a = c.args in
    code_genesis a.dag.now.state.now a.dag.now.keys.now (supposing a.taken.now a.dag.now.certs.now) a.dag.now.order.now a.marks.now a.span a.round.0 c.if-round-genesis.true

pub returns-in_err-history_fault : goal.returns-in_err-history_fault
returns-in_err-history_fault c =
    let a = c.args in
    let p = err_from_is_err_and c.from_residual.result c.from_residual.ensures.1 in
    rw (p.1, p.2) (code_fault a.dag.now.state.now a.dag.now.keys.now (supposing a.taken.now a.dag.now.certs.now) a.dag.now.order.now a.marks.now a.span a.round.0 c.if-round-genesis.false _ (found_by_lem a.dag.now.keys.now a.dag.now.certs.now a.dag.now.order.now a.taken.now a.marks.now a.span.low a.span.high _ c.history_fault.ensures) _ c.in_err-history_fault.was)

pub returns-then-rounds_missing : goal.returns-then-rounds_missing
returns-then-rounds_missing c =
    let a = c.args in
    code_missing a.dag.now.state.now a.dag.now.keys.now (supposing a.taken.now a.dag.now.certs.now) a.dag.now.order.now a.marks.now a.span a.round.0 c.if-round-genesis.false _ (found_by_lem a.dag.now.keys.now a.dag.now.certs.now a.dag.now.order.now a.taken.now a.marks.now a.span.low a.span.high _ c.history_fault.ensures) c.in_ok-history_fault.was _ c.rounds_missing.ensures c.if-rounds_missing.true

pub returns-then-any_uncertified : goal.returns-then-any_uncertified
returns-then-any_uncertified c =
    let a = c.args in
    code_flat a.dag.now.state.now a.dag.now.keys.now (supposing a.taken.now a.dag.now.certs.now) a.dag.now.order.now a.marks.now a.span a.round.0 c.if-round-genesis.false _ (found_by_lem a.dag.now.keys.now a.dag.now.certs.now a.dag.now.order.now a.taken.now a.marks.now a.span.low a.span.high _ c.history_fault.ensures) c.in_ok-history_fault.was _ c.rounds_missing.ensures c.if-rounds_missing.false _ c.any_uncertified.ensures c.if-any_uncertified.true

pub returns : goal.returns
returns c =
    let a = c.args in
    code_none a.dag.now.state.now a.dag.now.keys.now (supposing a.taken.now a.dag.now.certs.now) a.dag.now.order.now a.marks.now a.span a.round.0 c.if-round-genesis.false _ (found_by_lem a.dag.now.keys.now a.dag.now.certs.now a.dag.now.order.now a.taken.now a.marks.now a.span.low a.span.high _ c.history_fault.ensures) c.in_ok-history_fault.was _ c.rounds_missing.ensures c.if-rounds_missing.false _ c.any_uncertified.ensures c.if-any_uncertified.false
