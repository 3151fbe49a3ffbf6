use Rattle.spec.specs.Inspect.{event_bytes}
use Rattle.tables_test.specs.View.{view}
use Rattle.inspector_events.specs.Told.{Told}
use Rattle.inspector_rounds.specs.Rounds.{owed_to}
use Rattle.inspector_rounds.proofs.emit_signer_rounds.Given as goal

abbrev pub invariant-loop-k : goal.invariant-loop-k
invariant-loop-k l =
    Told event_bytes l.write l.initial.b l.initial.out (owed_to (view l.dag.state.now l.dag.keys.now l.dag.links.now l.dag.certs.now l.dag.order.now) l.k) l.out l.b
