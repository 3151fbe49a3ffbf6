use Prim.Native.Nat.{◌+◌, ◌≤◌, ◌-◌}
use mathlib.Core.Path.{◌≡◌}
use Rattle.info_checks.specs.Form.{rises_from}
use Rattle.info_checks.proofs.rises.Given as goal

abbrev pub invariant-loop-i : goal.invariant-loop-i
invariant-loop-i l = (l.low ≤ 32) × (rises_from l.refs 0 l.from l.m ≡ rises_from l.refs l.low (l.from + l.i) (l.m - l.i))
