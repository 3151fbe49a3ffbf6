use mathlib.Core.Path.{ap, ◌∙◌}
use Rattle.laws.specs.Bytes.{written}
use Rattle.back_walk.specs.Refines.{enqueued_of}
use Rattle.commit_dequeue.specs.Model.{draw_by, record_by}
use Rattle.commit_dequeue.proofs.one.put_anchor.Goals as goal

pub put_record-requires : goal.put_record-requires
put_record-requires c =
    let a = c.args in
    let p = c.requires in
    let (l, n) = draw_by a.dag.now.state.now a.dag.now.keys.now a.dag.now.certs.now a.dag.now.order.now a.lists.now a.lists_end a.marks.now a.lowest.0 (enqueued_of a.e) _ c.round_at-round.ensures _ p.drawable.0 in
    record { listable = (l, p.drawable.1); anchor_in_bounds = (p.placed.3, p.placed.4, n, p.count_in_bounds) }

pub returns : goal.returns
returns c =
    let p = c.put_record.ensures in
    let a = c.args in
    (p.0, p.1 ∙ ap (written a.b.now a.at) (record_by a.dag.now.state.now a.dag.now.keys.now a.dag.now.certs.now a.dag.now.order.now a.lists.now a.lists_end a.marks.now a.lowest.0 (enqueued_of a.e) _ c.round_at-round.ensures _ _ _ _ _ c.executable-x.ensures c.previous_anchor-before.ensures))
