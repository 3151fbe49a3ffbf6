use Rattle.inspector_inspect.specs.Inspected.{Peers}
use Rattle.inspector_inspect.proofs.inspect.counters_of.Given as goal

abbrev pub invariant-loop-a : goal.invariant-loop-a
invariant-loop-a l = Peers l.fn.counts l.used l.sets l.n l.signers l.a l.counters
