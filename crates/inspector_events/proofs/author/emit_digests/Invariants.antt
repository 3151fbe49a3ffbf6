use Rattle.laws.specs.Bytes.{be}
use Rattle.inspector_events.specs.Told.{Told}
use Rattle.inspector_events.specs.Author.{digests_of}
use Rattle.inspector_events.proofs.author.emit_digests.Given as goal

abbrev pub invariant-loop-point : goal.invariant-loop-point
invariant-loop-point l = Told (be 32) l.write l.initial.b l.initial.out (digests_of l.keys l.certs l.order l.low l.point-index l.author) l.out l.b
