use native.Mathlib.Omega.{arith}
use Rattle.trace.specs.Events.{event_cut, equivocated_cut, equivocated_whole}
use Rattle.trace.proofs.events.equivocated_of.Goals as goal

pub returns-then-left-lt-EVENT_HEAD_BYTES : goal.returns-then-left-lt-EVENT_HEAD_BYTES
returns-then-left-lt-EVENT_HEAD_BYTES c = event_cut _ _ _ _ (omega (arith, c.if-left-lt-EVENT_HEAD_BYTES.true))

pub returns-then-left-count : goal.returns-then-left-count
returns-then-left-count c = equivocated_cut _ _ _ c.number_of-count.ensures (omega (arith, c.if-left-lt-EVENT_HEAD_BYTES.false)) c.if-left-count.true

pub returns : goal.returns
returns c = equivocated_whole _ _ _ c.number_of-count.ensures (omega (arith, c.if-left-lt-EVENT_HEAD_BYTES.false)) _ _ c.byte_of-author.ensures.0 c.number_of-round.ensures c.if-left-count.false
