use Rattle.spec.specs.Ids.{id_bytes}
use Rattle.inspector_events.specs.Told.{Told}
use Rattle.inspector_signers.specs.Signers.{row_ids}
use Rattle.inspector_signers.proofs.emit_rows.Given as goal

abbrev pub invariant-loop-k : goal.invariant-loop-k
invariant-loop-k l = Told id_bytes l.write l.initial.b l.initial.out (row_ids l.rows l.sets l.k l.round.0 l.signer l.proofs) l.out l.b
