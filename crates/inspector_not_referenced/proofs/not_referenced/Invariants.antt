use Rattle.inspector_not_referenced.specs.Signers.{cell_of, Cells}
use Rattle.inspector_not_referenced.proofs.not_referenced.Given as goal

abbrev pub invariant-loop-k : goal.invariant-loop-k
invariant-loop-k l = Cells (cell_of l.keys l.links l.places l.m l.live l.adjacent l.rows l.n) l.k l.sets l.signers
