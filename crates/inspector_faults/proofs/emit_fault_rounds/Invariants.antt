use Prim.Native.Nat.{◌+◌}
use Rattle.laws.specs.Lists.{up_to}
use Rattle.spec.specs.Inspect.{event_bytes}
use Rattle.inspector_events.specs.Told.{Told}
use Rattle.inspector_faults.specs.Faults.{round_faults}
use Rattle.inspector_faults.proofs.emit_fault_rounds.Given as goal

abbrev pub invariant-loop-k : goal.invariant-loop-k
invariant-loop-k l = Told event_bytes l.write l.initial.b l.initial.out (up_to l.k (λ j. round_faults l.dag.keys.now l.dag.certs.now l.dag.order.now l.n l.fault (l.first.0 + j))) l.out l.b
