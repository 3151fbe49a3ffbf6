use Rattle.std.proofs.Common.{◌≡◌, get_or}
use Rattle.inspector_rows.specs.Rows.{stacked}
use Rattle.inspector_rows.specs.Must.{must_row}
use Rattle.inspector_rows.proofs.must_reference.Given as goal

abbrev pub invariant-loop-k : goal.invariant-loop-k
invariant-loop-k l = l.rows ≡ stacked (λ j. must_row l.keys l.links l.places l.n l.live (get_or l.places j 0)) l.initial.rows l.k
