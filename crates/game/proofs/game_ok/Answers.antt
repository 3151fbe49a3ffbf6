use borrow.Author.Rules.{rules}
use Rattle.game.specs.Steps.{author_high, author_low}
use Rattle.game.proofs.game_ok.Goals as goal

pub returns-then-author-gt-PEER_LAST : goal.returns-then-author-gt-PEER_LAST
returns-then-author-gt-PEER_LAST c = author_high _ _ _ c.if-author-gt-PEER_LAST.true

pub peer_count-n-requires : goal.peer_count-n-requires
peer_count-n-requires c = search rules

pub and-requires : goal.and-requires
and-requires c = search rules

pub and-counts-requires : goal.and-counts-requires
and-counts-requires c = search rules

pub has_peer-peer-requires : goal.has_peer-peer-requires
has_peer-peer-requires c = search rules

pub within-requires : goal.within-requires
within-requires c = search rules

pub within-requires-2 : goal.within-requires-2
within-requires-2 c = search rules

pub and-sets-requires : goal.and-sets-requires
and-sets-requires c = search rules

pub and-requires-2 : goal.and-requires-2
and-requires-2 c = search rules

pub and-requires-3 : goal.and-requires-3
and-requires-3 c = search rules

pub and-requires-4 : goal.and-requires-4
and-requires-4 c = search rules

pub and-requires-5 : goal.and-requires-5
and-requires-5 c = search rules

pub returns : goal.returns
returns c =
    let counts = c in
    author_low _ _ _ _ _ _ _ _ _ _ _ _ _ _ counts.if-author-gt-PEER_LAST.false counts.peer_count-n.ensures counts.and.ensures counts.and-counts.ensures c.has_peer-peer.ensures c.within.ensures c.within-2.ensures c.and-sets.ensures c.and-2.ensures c.and-3.ensures c.and-4.ensures c.and-5.ensures
