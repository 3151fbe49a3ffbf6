use Rattle.dag_round_points.specs.Model.{id_code, id_words}
use Rattle.dag_round_points.specs.Codes.{found_first}
use Rattle.dag_round_points.specs.Point.{missing, point_code, place_for, point-found}
use Rattle.std.proofs.lemmas.Result.{err_from_is_err_and}
use Rattle.dag_round_points.proofs.find_named.Goals as goal

pub returns-in_err-check_id : goal.returns-in_err-check_id
unfolding point_code
returns-in_err-check_id c =
    let a = c.args in
    let p = err_from_is_err_and c.from_residual.result c.from_residual.ensures.1 in
    rw (p.1, p.2) (found_first _ (id_code a.s.now a.id) (missing a.keys.now a.order.now a.s.now.count (id_words a.id)) (place_for a.s.now a.keys.now a.order.now a.id) c.check_id.ensures _ c.in_err-check_id.was)

pub returns : goal.returns
returns c =
    let a = c.args in
    point-found a.s.now a.keys.now a.order.now a.id _ c.check_id.ensures c.in_ok-check_id.was _ c.find_id.ensures
