use native.Mathlib.Omega.{arith}
use Rattle.trace.specs.Events.{event_cut, blamed_cut, proofs-cut, no_inclusion_whole}
use Rattle.trace.proofs.events.no_inclusion_of.Goals as goal

pub returns-then-left-lt-EVENT_HEAD_BYTES : goal.returns-then-left-lt-EVENT_HEAD_BYTES
returns-then-left-lt-EVENT_HEAD_BYTES c = event_cut _ _ _ _ (omega (arith, c.if-left-lt-EVENT_HEAD_BYTES.true))

pub returns-then-left-blamed : goal.returns-then-left-blamed
returns-then-left-blamed c = blamed_cut _ _ _ c.number_of-blamed.ensures (omega (arith, c.if-left-lt-EVENT_HEAD_BYTES.false)) c.if-left-blamed.true

pub returns-then-left-blamed-2 : goal.returns-then-left-blamed-2
returns-then-left-blamed-2 c = proofs-cut _ _ _ c.number_of-blamed.ensures (omega (arith, c.if-left-lt-EVENT_HEAD_BYTES.false)) _ c.number_of-proofs.ensures c.if-left-blamed.false c.if-left-blamed-2.true

pub returns : goal.returns
returns c = no_inclusion_whole _ _ _ c.number_of-blamed.ensures (omega (arith, c.if-left-lt-EVENT_HEAD_BYTES.false)) _ c.number_of-proofs.ensures c.if-left-blamed.false _ c.byte_of-signer.ensures.0 c.if-left-blamed-2.false
