use native.Mathlib.Omega.{arith}
use Rattle.commit_call.specs.Commit.{ended_by}
use Rattle.commit_call.proofs.commit_chain.Goals as goal

pub commit_all-all-requires : goal.commit_all-all-requires
commit_all-all-requires c = let p = c.requires in record { order_value = p.order_value; rising = p.rising; count_bound = omega (arith, p.count_bound) }

pub returns : goal.returns
returns c =
    let a = c.args in
    let w = c.commit_all-all.ensures in
    ended_by a.keys.now a.links.now a.order.now a.s a.certs.now a.lists.now a.b.now _ _ _ _ _ _ w.words w.finished _ c.ended.ensures
