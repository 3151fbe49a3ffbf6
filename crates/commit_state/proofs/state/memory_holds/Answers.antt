use native.Mathlib.Omega.{arith}
use borrow.Author.Count.{below_none, below_more}
use Rattle.commit_state.specs.Memory.{memory_long, memory_no, memory_yes, entry-author, entry_last, entry_next, entry-falls}
use Rattle.commit_state.proofs.state.memory_holds.Goals as goal
use Rattle.commit_state.proofs.state.memory_holds.Goals.{then-i-n+else-not-is_lower, else-i-n}

pub returns-then-n-gt-ROUND_POINTS_MAX : goal.returns-then-n-gt-ROUND_POINTS_MAX
returns-then-n-gt-ROUND_POINTS_MAX c = memory_long _ c.if-n-gt-ROUND_POINTS_MAX.true

pub loop-i-init : goal.loop-i-init
loop-i-init c = below_none _

pub returns-then-x-gt-PEER_LAST : goal.returns-then-x-gt-PEER_LAST
returns-then-x-gt-PEER_LAST c = memory_no _ c.if-n-gt-ROUND_POINTS_MAX.false _ c.loop-i-test.true (entry-author _ _ _ c.if-x-gt-PEER_LAST.true)

pub returns-then-not-is_lower : goal.returns-then-not-is_lower
returns-then-not-is_lower c =
    memory_no _ c.if-n-gt-ROUND_POINTS_MAX.false _ c.loop-i-test.true
    (entry-falls _ _ _ c.if-x-gt-PEER_LAST.false c.if-i-n.true _ c.is_lower.ensures c.if-not-is_lower.true-raw)

pub loop-i-preserved : goal.loop-i-preserved
loop-i-preserved c =
    below_more _ _ c.loop-i.invariant
    (elim c.if-i-n.branch [
      | then-i-n+else-not-is_lower w ↦ entry_next _ _ _ c.if-x-gt-PEER_LAST.false w.if-i-n.true _ w.is_lower.ensures w.if-not-is_lower.false-raw
      | else-i-n w ↦ entry_last _ _ _ c.if-x-gt-PEER_LAST.false w.if-i-n.false
    ])

pub returns : goal.returns
returns c = memory_yes _ c.if-n-gt-ROUND_POINTS_MAX.false (λ j l. c.loop-i.invariant j (omega (arith, c.loop-i-test.false)))
