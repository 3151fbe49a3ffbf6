use native.Mathlib.Omega.{arith}
use Rattle.trace.specs.Events.{event_cut, event_whole}
use Rattle.trace.proofs.events.single_of.Goals as goal

pub returns-then-b-at-lt-SINGLE_BYTES : goal.returns-then-b-at-lt-SINGLE_BYTES
returns-then-b-at-lt-SINGLE_BYTES c = event_cut _ _ _ _ (omega (arith, c.if-b-at-lt-SINGLE_BYTES.true))

pub returns : goal.returns
returns c = event_whole _ _ _ _ (omega (arith, c.if-b-at-lt-SINGLE_BYTES.false, c.requires))
