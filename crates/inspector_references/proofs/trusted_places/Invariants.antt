use Prim.Native.Nat.{◌≤◌}
use Rattle.inspector_references.specs.Trusted.{Listed, trusted_in}
use Rattle.inspector_references.proofs.trusted_places.Given as goal

abbrev pub invariant-loop-point : goal.invariant-loop-point
invariant-loop-point l = (l.count ≤ l.point-index) × Listed l.places l.count (trusted_in l.dag.keys.now l.dag.certs.now l.dag.order.now l.low l.point-index)
