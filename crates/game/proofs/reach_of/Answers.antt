use native.Mathlib.Omega.{arith}
use borrow.Author.Rules.{rules}
use borrow.Author.Tests.{not-true, not-false}
use Rattle.game.specs.Refines.{author-fits, sum_fits, reach-fits, answers-refused, answers-forced, answers_prevented}
use Rattle.game.proofs.reach_of.Goals as goal

pub game_ok-requires : goal.game_ok-requires
game_ok-requires c = search rules

pub returns-then-not-game_ok : goal.returns-then-not-game_ok
returns-then-not-game_ok c = answers-refused _ _ _ _ c.game_ok.ensures (not-true _ c.if-not-game_ok.true-raw)

pub peer_count-kept-requires : goal.peer_count-kept-requires
peer_count-kept-requires c = search rules

pub peer_count-spoilt-requires : goal.peer_count-spoilt-requires
peer_count-spoilt-requires c = search rules

pub peer_count-r-requires : goal.peer_count-r-requires
peer_count-r-requires c = search rules

pub overflow_add-n : goal.overflow_add-n
overflow_add-n c =
    let start = c in
    omega (arith, sum_fits _ _ _ _ c.game_ok.ensures (not-false _ c.if-not-game_ok.false-raw) _ _ _ c.peer_count-kept.ensures c.peer_count-spoilt.ensures c.peer_count-r.ensures start.ranges.peers.fits start.ranges.keepers.fits start.ranges.reach.fits)

pub has_peer-keeps-requires : goal.has_peer-keeps-requires
has_peer-keeps-requires c =
    author-fits _ _ _ _ c.game_ok.ensures (not-false _ c.if-not-game_ok.false-raw)

pub forced_by-forced-requires : goal.forced_by-forced-requires
forced_by-forced-requires c =
    let at = c in
    let start = c in
    reach-fits _ _ _ _ at.game_ok.ensures (not-false _ at.if-not-game_ok.false-raw) _ _ _ c.peer_count-kept.ensures c.peer_count-spoilt.ensures c.peer_count-r.ensures start.ranges.peers.fits start.ranges.keepers.fits start.ranges.reach.fits

pub returns-then-forced : goal.returns-then-forced
returns-then-forced c =
    let at = c in
    let start = c in
    answers-forced _ _ _ _ at.game_ok.ensures (not-false _ at.if-not-game_ok.false-raw) _ _ _ c.peer_count-kept.ensures c.peer_count-spoilt.ensures c.peer_count-r.ensures start.ranges.peers.fits start.ranges.keepers.fits start.ranges.reach.fits _ _ c.has_peer-keeps.ensures c.forced_by-forced.ensures c.if-forced.true

pub returns-else-forced : goal.returns-else-forced
returns-else-forced c =
    let at = c in
    let start = c in
    answers_prevented _ _ _ _ at.game_ok.ensures (not-false _ at.if-not-game_ok.false-raw) _ _ _ c.peer_count-kept.ensures c.peer_count-spoilt.ensures c.peer_count-r.ensures start.ranges.peers.fits start.ranges.keepers.fits start.ranges.reach.fits _ _ c.has_peer-keeps.ensures c.forced_by-forced.ensures c.if-forced.false
