use Rattle.replay.specs.Places.{Reading}
use Rattle.replay.proofs.number_said.Given as goal

abbrev pub invariant-loop-d : goal.invariant-loop-d
invariant-loop-d l = Reading l.digits l.n l.d-index
