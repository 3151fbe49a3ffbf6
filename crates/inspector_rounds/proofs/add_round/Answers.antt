use native.Mathlib.Omega.{arith}
use Rattle.models.specs.Digest.{Fit}
use Rattle.stats.specs.Ranges.{since_of}
use Rattle.commit_state.specs.View.{record_of}
use Rattle.inspector_rounds.specs.Rounds.{next_in, next_low, next_ready, next_owed, next_added}
use Rattle.inspector_rounds.proofs.add_round.Goals as goal

pub plus-round-requires : goal.plus-round-requires
plus-round-requires c =
    let a = c.args in
    let p = c.requires in
    let fk : Fit a.dag.now.keys.now = a.dag.now.keys_fit in
    let fl : Fit a.dag.now.links.now = a.dag.now.links_fit in
    let l = next_low a.dag.now.state.now a.dag.now.keys.now a.dag.now.links.now a.dag.now.certs.now a.dag.now.order.now fk fl p.order_value a.first.0 a.k p.first_value.0 p.first_value.1 in
    omega (arith, l)

pub inspect-inspected-requires : goal.inspect-inspected-requires
inspect-inspected-requires c =
    let a = c.args in
    let p = c.requires in
    let fk : Fit a.dag.now.keys.now = a.dag.now.keys_fit in
    let fl : Fit a.dag.now.links.now = a.dag.now.links_fit in
    let (l, h) = next_in a.dag.now.state.now a.dag.now.keys.now a.dag.now.links.now a.dag.now.certs.now a.dag.now.order.now fk fl p.order_value a.first.0 a.k p.first_value.0 p.first_value.1 _ c.plus-round.ensures in
    record { order_value = p.order_value; bottom_le_round = (l, h, p.first_value.2) }

pub merge_round-merged-requires : goal.merge_round-merged-requires
merge_round-merged-requires c =
    let a = c.args in
    let p = c.requires in
    let fk : Fit a.dag.now.keys.now = a.dag.now.keys_fit in
    let fl : Fit a.dag.now.links.now = a.dag.now.links_fit in
    next_ready a.dag.now.state.now a.dag.now.keys.now a.dag.now.links.now a.dag.now.certs.now a.dag.now.order.now fk fl p.order_value a.first.0 a.k p.first_value.0 p.first_value.1 (since_of a.stats_since) a.sum p.summed

pub overflow_add-owed : goal.overflow_add-owed
overflow_add-owed c =
    let a = c.args in
    let p = c.requires in
    let fk : Fit a.dag.now.keys.now = a.dag.now.keys_fit in
    let fl : Fit a.dag.now.links.now = a.dag.now.links_fit in
    let x = c.inspect-inspected in
    let l = next_owed a.dag.now.state.now a.dag.now.keys.now a.dag.now.links.now a.dag.now.certs.now a.dag.now.order.now fk fl p.order_value a.first.0 a.k p.first_value.0 p.first_value.1 (since_of a.stats_since) a.sum p.summed _ c.plus-round.ensures x.result x.ensures.0 in
    omega (arith, l.0)

pub overflow_add-owed-2 : goal.overflow_add-owed-2
overflow_add-owed-2 c =
    let a = c.args in
    let p = c.requires in
    let fk : Fit a.dag.now.keys.now = a.dag.now.keys_fit in
    let fl : Fit a.dag.now.links.now = a.dag.now.links_fit in
    let x = c.inspect-inspected in
    let l = next_owed a.dag.now.state.now a.dag.now.keys.now a.dag.now.links.now a.dag.now.certs.now a.dag.now.order.now fk fl p.order_value a.first.0 a.k p.first_value.0 p.first_value.1 (since_of a.stats_since) a.sum p.summed _ c.plus-round.ensures x.result x.ensures.0 in
    omega (arith, l.1)

pub returns : goal.returns
unfolding record_of
returns c =
    let a = c.args in
    let p = c.requires in
    let fk : Fit a.dag.now.keys.now = a.dag.now.keys_fit in
    let fl : Fit a.dag.now.links.now = a.dag.now.links_fit in
    let x = c.inspect-inspected in
    (next_added a.dag.now.state.now a.dag.now.keys.now a.dag.now.links.now a.dag.now.certs.now a.dag.now.order.now fk fl p.order_value a.first.0 a.k p.first_value.0 p.first_value.1 (since_of a.stats_since) a.sum p.summed _ c.plus-round.ensures x.result x.ensures.0 _ c.is_since-counted.ensures _ c.merge_round-merged.ensures, x.ensures.1)
