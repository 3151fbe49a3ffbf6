use Prim.Native.Nat.{◌≤◌, ◌-◌}
use mathlib.Core.Path.{◌≡◌}
use Rattle.back_committable.specs.Scan.{scanned}
use Rattle.back_committable.specs.ModelPoints.{faulty_at, round_of}
use Rattle.back_committable.proofs.fault.first_fault.Given as goal

abbrev pub invariant-loop-p : goal.invariant-loop-p
invariant-loop-p l = (l.low ≤ l.p) × (l.found ≡ scanned (faulty_at l.keys l.certs l.order l.marks) (round_of l.keys l.order) l.high (l.high - l.p))
