use mathlib.Core.Path.{refl, ◌∙◌, ap}
use lib.ListN.{length}
use borrow.Author.Rules.{rules}
use Rattle.cert_certify.specs.Model.{visited, visited-more, visited-length, ready_at, ready_open, settled_at}
use Rattle.cert_certify.proofs.certify_queued.Goals as goal

pub loop-head-init : goal.loop-head-init
unfolding visited
loop-head-init c = (search rules, refl)

pub offset_bounds-queue-head : goal.offset_bounds-queue-head
offset_bounds-queue-head c = search (rules, ready_at _ _ _ _ _ _ _ c.requires.ready c.loop-head.invariant.1 c.loop-head-test.true refl)

pub bounds-queue-head : goal.bounds-queue-head
bounds-queue-head c = search (rules, ready_at _ _ _ _ _ _ _ c.requires.ready c.loop-head.invariant.1 c.loop-head-test.true refl)

pub live_links-m-requires : goal.live_links-m-requires
live_links-m-requires c = let r = ready_at _ _ _ _ _ _ _ c.requires.ready c.loop-head.invariant.1 c.loop-head-test.true c.slot-p.ensures in search rules

pub certify_deps-tail-requires : goal.certify_deps-tail-requires
certify_deps-tail-requires c =
    let r = ready_at _ _ _ _ _ _ _ c.requires.ready c.loop-head.invariant.1 c.loop-head-test.true c.slot-p.ensures in
    let size = ap (λ w. length w.certs) c.loop-head.invariant.1 ∙ (visited-length _ _ _ _ _).0 in
    record { m_bound = search (rules, size); fact = ready_open _ _ _ _ _ _ _ _ c.requires.ready c.loop-head.invariant.1 c.loop-head-test.true c.slot-p.ensures c.live_links-m.ensures.value }

pub loop-head-smaller : goal.loop-head-smaller
loop-head-smaller c =
    let r = ready_at _ _ _ _ _ _ _ c.requires.ready c.loop-head.invariant.1 c.loop-head-test.true c.slot-p.ensures in
    search rules

pub loop-head-preserved : goal.loop-head-preserved
loop-head-preserved c =
    let r = ready_at _ _ _ _ _ _ _ c.requires.ready c.loop-head.invariant.1 c.loop-head-test.true c.slot-p.ensures in
    (search rules, visited-more _ _ _ _ _ _ _ _ _ c.loop-head.invariant.1 c.loop-head-test.true c.slot-p.ensures c.live_links-m.ensures.value c.certify_deps-tail.ensures)

pub returns : goal.returns
returns c = settled_at _ _ _ _ _ _ c.loop-head.invariant.1 c.loop-head.invariant.0 c.loop-head-test.false
