use mathlib.Core.Path.{refl}
use mathlib.Core.Bool.{true}
use Rattle.laws.specs.Peers.{with_peer}
use Rattle.inspector_references.specs.Sets.{union_none, union_yes, union_end}
use Rattle.inspector_not_referenced.specs.Signers.{row_authors}
use borrow.Author.Rules.{rules}
use Rattle.inspector_not_referenced.proofs.row_authors.Goals as goal

pub loop-k-init : goal.loop-k-init
loop-k-init c = union_none _ _

pub with_peer-peers-requires : goal.with_peer-peers-requires
with_peer-peers-requires c = c.requires.by_index _ c.loop-k-test.true

pub loop-k-preserved : goal.loop-k-preserved
unfolding with_peer
loop-k-preserved c = let l = c.loop-k in union_yes _ _ l.k l.peers _ l.invariant true refl _ refl refl c.with_peer-peers.ensures

pub returns : goal.returns
unfolding row_authors
returns c = let l = c.loop-k in union_end _ _ l.k _ _ l.invariant (search rules) c.loop-k-test.false
