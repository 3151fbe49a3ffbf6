use Rattle.dag_round_points.specs.Model.{name_code, id_code, table_code, id_words, taken}
use Rattle.dag_round_points.specs.Codes.{found_first, found-next}
use Rattle.std.proofs.lemmas.Result.{err_from_is_err_and}
use Rattle.dag_round_points.proofs.check_name.Goals as goal

pub returns-in_err-check_id : goal.returns-in_err-check_id
unfolding name_code
returns-in_err-check_id c =
    let a = c.args in
    let p = err_from_is_err_and c.from_residual.result c.from_residual.ensures.1 in
    rw (p.1, p.2) (found_first _ (id_code a.s.now a.id) (table_code a.keys.now a.order.now a.s.now.count (id_words a.id)) (taken a.s.now a.order.now) c.check_id.ensures _ c.in_err-check_id.was)

pub returns : goal.returns
unfolding name_code
returns c =
    let a = c.args in
    found-next _ (id_code a.s.now a.id) (table_code a.keys.now a.order.now a.s.now.count (id_words a.id)) (taken a.s.now a.order.now) c.check_id.ensures c.in_ok-check_id.was _ c.check_table.ensures
