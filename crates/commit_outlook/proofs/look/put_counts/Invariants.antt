use Prim.Native.Nat.{◌-◌, ◌≤◌}
use Rattle.commit_outlook.specs.Look.{Counting}
use Rattle.commit_outlook.proofs.look.put_counts.Given as goal

abbrev pub invariant-loop-r : goal.invariant-loop-r
invariant-loop-r l = (l.top - l.r ≤ l.top - l.low) × Counting l.keys l.order l.n l.marks l.top l.at l.initial.b l.b l.next (l.top - l.r)
