use Prim.Native.Nat.{◌-◌}
use mathlib.Core.Path.{sym, ◌∙◌}
use native.Mathlib.Omega.{arith}
use lib.ListN.{length}
use Rattle.models.specs.Digest.{Fit}
use Rattle.back_walk.specs.Refines.{enqueued_of}
use Rattle.commit_dequeue.specs.Model.{number_fits, one-refused, one-taken}
use Rattle.commit_dequeue.specs.Refines.{held, anchor_used, placed, listing, picked_ready, sums_ready, sources_ready, drawn_ready, one_says}
use Rattle.commit_dequeue.proofs.one.dequeue_anchor.Goals as goal

pub test_anchor-t-requires : goal.test_anchor-t-requires
test_anchor-t-requires c =
    let a = c.args in
    let fk : Fit a.keys.now = λ p. (c.shared_slice_known-1.given p).fits in
    let fl : Fit a.links.now = λ p. (c.shared_slice_known-2-1.given p).fits in
    let p = c.requires in
    record { started = held a.s a.keys.now a.links.now a.certs.now a.order.now fk fl p.order_value (enqueued_of a.e) p.anchored; used = anchor_used a.s a.keys.now a.links.now a.certs.now a.order.now fk fl p.order_value (enqueued_of a.e) p.anchored }

pub list_anchor-listed-requires : goal.list_anchor-listed-requires
list_anchor-listed-requires c =
    let a = c.args in
    let fk : Fit a.keys.now = λ p. (c.shared_slice_known-1.given p).fits in
    let fl : Fit a.links.now = λ p. (c.shared_slice_known-2-1.given p).fits in
    let p = c.requires in
    record { listing = listing a.s a.keys.now a.links.now a.certs.now a.order.now fk fl p.order_value (enqueued_of a.e) p.anchored; from_in_bounds = p.from_in_bounds.0 }

pub overflow_sub-left : goal.overflow_sub-left
overflow_sub-left c = omega (arith, c.requires.from_in_bounds.1)

pub number_for-check-requires : goal.number_for-check-requires
number_for-check-requires c =
    let a = c.args in
    let fk : Fit a.keys.now = λ p. (c.shared_slice_known-1.given p).fits in
    let fl : Fit a.links.now = λ p. (c.shared_slice_known-2-1.given p).fits in
    let p = c.requires in
    let (n, q, w) = picked_ready a.s a.keys.now a.links.now a.certs.now a.order.now fk fl p.order_value (enqueued_of a.e) p.anchored c.test_anchor-t.result c.test_anchor-t.ensures.whole in
    n

pub returns-in-Err : goal.returns-in-Err
returns-in-Err c =
    let a = c.args in
    let fk : Fit a.keys.now = λ p. (c.shared_slice_known-1.given p).fits in
    let fl : Fit a.links.now = λ p. (c.shared_slice_known-2-1.given p).fits in
    let p = c.requires in
    let w = one-refused a.s a.keys.now a.links.now a.certs.now a.order.now a.lists.now a.from a.b.now a.at (enqueued_of a.e) c.test_anchor-t.result c.test_anchor-t.ensures.whole _ c.list_anchor-listed.ensures.ok_value _ c.number_for-check.ensures _ c.in-Err.is in
    record { words = w; says = one_says a.s a.keys.now a.links.now a.certs.now a.order.now fk fl p.order_value (enqueued_of a.e) p.anchored a.lists.now a.from c.well_formed.0.1.1.1.1.1.1.1.1.1.1.1.1.1.1.0.1.0.1 a.b.now a.at p.from_in_bounds.1 _ w }

pub payload_sums-sums-requires : goal.payload_sums-sums-requires
payload_sums-sums-requires c =
    let a = c.args in
    let fk : Fit a.keys.now = λ p. (c.shared_slice_known-1.given p).fits in
    let fl : Fit a.links.now = λ p. (c.shared_slice_known-2-1.given p).fits in
    let p = c.requires in
    sums_ready a.s a.keys.now a.links.now a.certs.now a.order.now fk fl p.order_value (enqueued_of a.e) p.anchored c.test_anchor-t.result c.test_anchor-t.ensures.whole

pub link_sources-by-requires : goal.link_sources-by-requires
link_sources-by-requires c =
    let a = c.args in
    let fk : Fit a.keys.now = λ p. (c.shared_slice_known-1.given p).fits in
    let fl : Fit a.links.now = λ p. (c.shared_slice_known-2-1.given p).fits in
    let p = c.requires in
    let told = sources_ready a.s a.keys.now a.links.now a.certs.now a.order.now fk fl p.order_value (enqueued_of a.e) p.anchored c.test_anchor-t.result c.test_anchor-t.ensures.whole in record { range = told.0; keys_len = told.1 }

pub put_anchor-end-requires : goal.put_anchor-end-requires
put_anchor-end-requires c =
    let a = c.args in
    let fk : Fit a.keys.now = λ p. (c.shared_slice_known-1.given p).fits in
    let fl : Fit a.links.now = λ p. (c.shared_slice_known-2-1.given p).fits in
    let p = c.requires in
    let (ok, r) = number_fits c.test_anchor-t.result.check a.s.emit_first_after_gap c.list_anchor-listed.result.ok c.test_anchor-t.result.count (length a.b.now - a.at) (sym c.number_for-check.ensures ∙ c.in_default.is) in
    record { drawable = (drawn_ready a.s a.keys.now a.links.now a.certs.now a.order.now fk fl p.order_value (enqueued_of a.e) p.anchored a.lists.now a.from c.test_anchor-t.result c.test_anchor-t.ensures.whole p.from_in_bounds.0 (sym c.list_anchor-listed.ensures.ok_value ∙ ok) _ (c.list_anchor-listed.ensures.end_value ok), c.link_sources-by.ensures.1); placed = placed a.s a.keys.now a.links.now a.certs.now a.order.now fk fl p.order_value (enqueued_of a.e) p.anchored; count_in_bounds = omega (arith, r, p.from_in_bounds.1) }

pub next_state-next-requires : goal.next_state-next-requires
next_state-next-requires c =
    let a = c.args in
    let fk : Fit a.keys.now = λ p. (c.shared_slice_known-1.given p).fits in
    let fl : Fit a.links.now = λ p. (c.shared_slice_known-2-1.given p).fits in
    let p = c.requires in
    let (n, q, w) = picked_ready a.s a.keys.now a.links.now a.certs.now a.order.now fk fl p.order_value (enqueued_of a.e) p.anchored c.test_anchor-t.result c.test_anchor-t.ensures.whole in
    record { certs_in_bounds = q.3; placed = placed a.s a.keys.now a.links.now a.certs.now a.order.now fk fl p.order_value (enqueued_of a.e) p.anchored }

pub mark_all-requires : goal.mark_all-requires
mark_all-requires c =
    let a = c.args in
    let fk : Fit a.keys.now = λ p. (c.shared_slice_known-1.given p).fits in
    let fl : Fit a.links.now = λ p. (c.shared_slice_known-2-1.given p).fits in
    let p = c.requires in
    let (n, q, w) = picked_ready a.s a.keys.now a.links.now a.certs.now a.order.now fk fl p.order_value (enqueued_of a.e) p.anchored c.test_anchor-t.result c.test_anchor-t.ensures.whole in
    (q.0, q.1, q.2, q.4, w)

pub returns : goal.returns
returns c =
    let a = c.args in
    let fk : Fit a.keys.now = λ p. (c.shared_slice_known-1.given p).fits in
    let fl : Fit a.links.now = λ p. (c.shared_slice_known-2-1.given p).fits in
    let p = c.requires in
    let (ok, r) = number_fits c.test_anchor-t.result.check a.s.emit_first_after_gap c.list_anchor-listed.result.ok c.test_anchor-t.result.count (length a.b.now - a.at) (sym c.number_for-check.ensures ∙ c.in_default.is) in
    let w = one-taken a.s a.keys.now a.links.now a.certs.now a.order.now a.lists.now a.from a.b.now a.at (enqueued_of a.e) c.test_anchor-t.result c.test_anchor-t.ensures.whole _ c.list_anchor-listed.ensures.ok_value _ c.number_for-check.ensures c.in_default.is _ _ _ _ _ _ _ _ c.link_sources-by.ensures.0 c.payload_sums-sums.ensures c.next_state-next.ensures c.mark_all.ensures (c.list_anchor-listed.ensures.end_value ok) c.put_anchor-end.ensures.1 c.put_anchor-end.ensures.0 in
    record { words = w; says = one_says a.s a.keys.now a.links.now a.certs.now a.order.now fk fl p.order_value (enqueued_of a.e) p.anchored a.lists.now a.from c.well_formed.0.1.1.1.1.1.1.1.1.1.1.1.1.1.1.0.1.0.1 a.b.now a.at p.from_in_bounds.1 _ w }
