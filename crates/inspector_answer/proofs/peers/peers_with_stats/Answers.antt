use mathlib.Core.Path.{refl}
use Rattle.inspector_references.specs.Sets.{union_none, union_end}
use Rattle.inspector_answer.specs.Peers.{with_stats, with_yes, with_no}
use borrow.Author.Rules.{rules}
use Rattle.inspector_answer.proofs.peers.peers_with_stats.Goals as goal
use Rattle.inspector_answer.proofs.peers.peers_with_stats.Goals.{then-peer-ne0, else-peer-ne0}

pub loop-k-init : goal.loop-k-init
loop-k-init c = union_none _ _

pub loop-k-preserved : goal.loop-k-preserved
loop-k-preserved c =
    let l = c.args.stats in
    let h = c.loop-k.invariant in
    elim c.if-peer-ne0.branch [ then-peer-ne0 w ↦ with_yes l _ _ _ h _ w.if-peer-ne0.true refl c.loop-k-test.true w.peers-is | else-peer-ne0 w ↦ with_no l _ _ _ h w.if-peer-ne0.false w.peers-is ]

pub returns : goal.returns
unfolding with_stats
returns c = let l = c.loop-k in union_end _ _ l.k _ _ l.invariant (search rules) c.loop-k-test.false
