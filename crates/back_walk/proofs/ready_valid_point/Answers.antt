use mathlib.Core.Path.{refl}
use native.Mathlib.Omega.{arith}
use Rattle.dag_round_points.specs.Point.{searchable}
use Rattle.back_walk.specs.Model.{needed_at, needed_of, needed_by, needed-inside, needed_judged}
use Rattle.std.proofs.lemmas.Result.{err_from_is_err_and}
use Rattle.back_walk.proofs.ready_valid_point.Goals as goal

pub look_up-look-requires : goal.look_up-look-requires
look_up-look-requires c =
    let told = searchable c.args.dag.now.state.now c.args.dag.now.keys.now c.args.dag.now.order.now c.args.id _ c.requires.0 c.id_words-words.ensures in record { n_in_bounds = told.0; sorted = told.1 }

pub offset_bounds-dag-q : goal.offset_bounds-dag-q
offset_bounds-dag-q c =
    let a = c.args in
    let h = needed-inside a.dag.now.state.now a.dag.now.keys.now a.dag.now.certs.now a.dag.now.order.now a.id _ c.id_words-words.ensures _ c.look_up-look.ensures _ _ c.in-Resolved.is c.requires in
    record { fits = omega (arith, h.0, h.1) }

pub bounds-dag-q : goal.bounds-dag-q
bounds-dag-q c =
    let a = c.args in
    let h = needed-inside a.dag.now.state.now a.dag.now.keys.now a.dag.now.certs.now a.dag.now.order.now a.id _ c.id_words-words.ensures _ c.look_up-look.ensures _ _ c.in-Resolved.is c.requires in
    h.0

pub returns-in-Never : goal.returns-in-Never
unfolding needed_of
returns-in-Never c =
    let a = c.args in
    needed_by a.dag.now.state.now a.dag.now.keys.now a.dag.now.certs.now a.dag.now.order.now a.id _ c.id_words-words.ensures _ c.look_up-look.ensures _ c.in-Never.is _ refl

pub returns-in-Named : goal.returns-in-Named
unfolding needed_of
returns-in-Named c =
    let a = c.args in
    needed_by a.dag.now.state.now a.dag.now.keys.now a.dag.now.certs.now a.dag.now.order.now a.id _ c.id_words-words.ensures _ c.look_up-look.ensures _ c.in-Named.is _ refl

pub returns-in_ok-judge-in-Resolved : goal.returns-in_ok-judge-in-Resolved
unfolding needed_at
returns-in_ok-judge-in-Resolved c =
    let a = c.args in
    needed_judged a.dag.now.state.now a.dag.now.keys.now a.dag.now.certs.now a.dag.now.order.now a.id _ c.id_words-words.ensures _ c.look_up-look.ensures _ _ c.in-Resolved.is _ _ c.judge.ensures c.in_ok-judge-in-Resolved.was

pub returns-in_err-judge-in-Resolved : goal.returns-in_err-judge-in-Resolved
unfolding needed_at
returns-in_err-judge-in-Resolved c =
    let a = c.args in
    let p = err_from_is_err_and c.from_residual.result c.from_residual.ensures.1 in
    rw (p.1, p.2) (needed_judged a.dag.now.state.now a.dag.now.keys.now a.dag.now.certs.now a.dag.now.order.now a.id _ c.id_words-words.ensures _ c.look_up-look.ensures _ _ c.in-Resolved.is _ _ c.judge.ensures c.in_err-judge-in-Resolved.was)
