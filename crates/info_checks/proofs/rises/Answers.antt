use Rattle.info_checks.specs.Form.{rise_start, rise_low, rise_high, rise_more, rise_end}
use borrow.Author.Rules.{rules}
use Rattle.info_checks.proofs.rises.Goals as goal

pub loop-i-init : goal.loop-i-init
loop-i-init c = (search rules, rise_start _ _ _)

pub returns-then-next-low : goal.returns-then-next-low
returns-then-next-low c = rise_low _ _ _ _ _ c.loop-i.invariant.1 c.loop-i-test.true _ c.peer-next.ensures c.if-next-low.true

pub returns-then-next-ge-PEER_SLOTS_WORD : goal.returns-then-next-ge-PEER_SLOTS_WORD
returns-then-next-ge-PEER_SLOTS_WORD c = rise_high _ _ _ _ _ c.loop-i.invariant.1 c.loop-i-test.true _ c.peer-next.ensures c.if-next-low.false c.if-next-ge-PEER_SLOTS_WORD.true

pub loop-i-preserved : goal.loop-i-preserved
loop-i-preserved c = (search rules, rise_more _ _ _ _ _ c.loop-i.invariant.1 c.loop-i-test.true _ c.peer-next.ensures c.if-next-low.false c.if-next-ge-PEER_SLOTS_WORD.false)

pub returns : goal.returns
returns c = rise_end _ _ _ _ _ c.loop-i.invariant.1 c.loop-i-test.false
