use Rattle.cert_certify.specs.Model.{start, traversed}
use Rattle.cert_certify.specs.Sane.{placed_low, start_ready}
use borrow.Author.Rules.{rules}
use Rattle.cert_certify.proofs.traverse_certify.Goals as goal

-- The queue begins with place q, and has room.
pub overflow_cast-queue : goal.overflow_cast-queue
overflow_cast-queue c = let l = placed_low _ _ _ _ _ c.requires.placed in search rules

pub certify_queued-requires : goal.certify_queued-requires
unfolding start
certify_queued-requires c =
    let p = c.requires in
    let a = c.args in
    record { keys_len = search (rules, placed_low _ _ _ _ _ p.placed); ready = start_ready a.bottom.0 a.keys.now a.links.now a.certs.now a.q p.placed }

pub returns : goal.returns
unfolding start traversed
returns c = c.certify_queued.ensures
