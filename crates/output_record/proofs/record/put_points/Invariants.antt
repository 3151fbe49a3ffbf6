use mathlib.Core.Path.{◌≡◌}
use lib.ListN.{length}
use Rattle.output_record.specs.Listed.{Sofar}
use Rattle.output_record.proofs.record.put_points.Given as goal

abbrev pub invariant-loop-k : goal.invariant-loop-k
invariant-loop-k l =
    (length l.b ≡ length l.initial.b) × Sofar l.keys l.by l.order l.n l.certs l.marks l.lists l.end l.lowest.0 l.ids l.told l.initial.b l.k l.from l.b l.points
