use native.Mathlib.Omega.{arith}
use borrow.Author.Rules.{rules}
use Rattle.inspector_rounds.specs.Merge.{merge_not, merge_none, merge-few, merge-yes, merge_no, merge_end}
use Rattle.inspector_rounds.proofs.merge_round.Goals as goal
use Rattle.inspector_rounds.proofs.merge_round.Goals.{then-has_peer, else-has_peer}

pub returns-then-not-counted : goal.returns-then-not-counted
returns-then-not-counted c = merge_not _ _ _ _ _ c.requires.0 (search rules)

pub loop-author-init : goal.loop-author-init
loop-author-init c = merge_none _ _ _ _ _ c.requires.0

pub add_in_order-requires : goal.add_in_order-requires
add_in_order-requires c =
    let p = c.requires in
    let l = c.loop-author in
    merge-few _ _ _ _ _ _ _ l.invariant _ p.1 c.loop-author-test.true

pub loop-author-preserved : goal.loop-author-preserved
loop-author-preserved c =
    let l = c.loop-author in
    let is = c.has_peer.ensures in
    let h = c.loop-author-test.true in
    elim c.if-has_peer.branch [ then-has_peer w ↦ merge-yes _ _ _ _ _ _ _ l.invariant _ is (search rules) w.if-has_peer.true h _ _ w.add_in_order.ensures w.merged-is | else-has_peer w ↦ merge_no _ _ _ _ _ _ _ l.invariant _ is w.if-has_peer.false _ w.merged-is ]

pub returns : goal.returns
returns c = merge_end _ _ _ _ _ _ _ c.loop-author.invariant (omega arith)
