use Rattle.spec.specs.Inspect.{event_bytes}
use Rattle.inspector_events.specs.Told.{Told}
use Rattle.inspector_events.specs.Author.{singles_of}
use Rattle.inspector_events.proofs.author.emit_singles.Given as goal

abbrev pub invariant-loop-point : goal.invariant-loop-point
invariant-loop-point l = Told event_bytes l.write l.initial.b l.initial.out (singles_of l.keys l.certs l.order l.low l.point-index l.kind l.test l.author) l.out l.b
