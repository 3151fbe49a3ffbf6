use Prim.Native.Nat.{◌-◌}
use Rattle.laws.specs.Lists.{up_to}
use Rattle.spec.specs.Inspect.{event_bytes}
use Rattle.inspector_events.specs.Told.{Told}
use Rattle.inspector_faults.specs.Faults.{fault_of}
use Rattle.inspector_faults.proofs.emit_faults.Given as goal

abbrev pub invariant-loop-author : goal.invariant-loop-author
invariant-loop-author l = Told event_bytes l.write l.initial.b l.initial.out (up_to l.author (fault_of l.keys l.certs l.order l.low (l.high - l.low) l.round.0 l.fault)) l.out l.b
