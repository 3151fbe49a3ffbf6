use Rattle.back_walk.specs.Refines.{enqueued_of}
use Rattle.commit_dequeue.specs.Model.{listed_by}
use native.Mathlib.Omega.{arith}
use Rattle.commit_dequeue.proofs.one.list_anchor.Goals as goal

pub lists_fit-requires : goal.lists_fit-requires
lists_fit-requires c =
    let p = c.requires in
    record { keys_len = (p.listing.0, p.listing.1, p.listing.2, p.listing.3); sorted = (p.listing.4, omega (arith, c.round_at-round.ensures, p.listing.5), p.from_in_bounds) }

pub returns : goal.returns
returns c =
    let a = c.args in
    let told = listed_by a.dag.now.state.now a.dag.now.keys.now a.dag.now.order.now a.lists.now a.from a.marks.now a.lowest.0 (enqueued_of a.e) _ c.round_at-round.ensures _ _ (c.lists_fit.ensures.ok_value, c.lists_fit.ensures.end_value) in record { ok_value = told.0; end_value = told.1 }
