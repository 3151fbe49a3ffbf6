use Rattle.spec.specs.Inspect.{event_bytes}
use Rattle.inspector_events.specs.Told.{Told}
use Rattle.inspector_signers.specs.Signers.{signers_of}
use Rattle.inspector_signers.proofs.emit_signers.Given as goal

abbrev pub invariant-loop-signer : goal.invariant-loop-signer
invariant-loop-signer l = Told event_bytes l.write l.initial.b l.initial.out (signers_of l.keys l.places l.m l.rows l.sets l.n l.last.0 l.signers l.signer) l.out l.b
