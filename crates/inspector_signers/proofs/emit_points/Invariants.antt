use Rattle.spec.specs.Ids.{id_bytes}
use Rattle.inspector_events.specs.Told.{Told}
use Rattle.inspector_signers.specs.Signers.{point_ids}
use Rattle.inspector_signers.proofs.emit_points.Given as goal

abbrev pub invariant-loop-q : goal.invariant-loop-q
invariant-loop-q l = Told id_bytes l.write l.initial.b l.initial.out (point_ids l.keys l.places l.q-index l.signer) l.out l.b
