use Rattle.dag_round_points.specs.Point.{searched, found_by, found_by_lem}
use Rattle.dag_round_points.proofs.find_id.Goals as goal

pub look_up-look-requires : goal.look_up-look-requires
look_up-look-requires c =
    let told = searched c.args.keys.now c.args.order.now c.args.n c.args.id _ c.requires.keys_len.0 c.requires.keys_len.1 c.requires.keys_len.2 c.requires.sorted c.id_words-words.ensures in record { n_in_bounds = told.0; sorted = told.1 }

pub returns-in-Resolved : goal.returns-in-Resolved
unfolding found_by
returns-in-Resolved c =
    let a = c.args in
    found_by_lem a.keys.now a.order.now a.n a.id _ c.id_words-words.ensures _ _ c.look_up-look.ensures c.in-Resolved.is

pub returns-in-Named : goal.returns-in-Named
unfolding found_by
returns-in-Named c =
    let a = c.args in
    found_by_lem a.keys.now a.order.now a.n a.id _ c.id_words-words.ensures _ _ c.look_up-look.ensures c.in-Named.is

pub returns-in-Never : goal.returns-in-Never
unfolding found_by
returns-in-Never c =
    let a = c.args in
    found_by_lem a.keys.now a.order.now a.n a.id _ c.id_words-words.ensures _ _ c.look_up-look.ensures c.in-Never.is
