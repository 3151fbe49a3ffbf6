use Prim.Native.Nat.{◌-◌}
use Rattle.lines.specs.Said.{Putting}
use Rattle.lines.proofs.said.put_anchors.Given as goal

abbrev pub invariant-loop : goal.invariant-loop
invariant-loop l = Putting l.b l.n l.initial.out l.at (l.n - l.counter) l.from l.next l.out
