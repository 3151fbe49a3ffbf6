use Prim.Native.Nat.{◌≤◌, ◌-◌}
use mathlib.Core.Path.{◌≡◌}
use lib.ListN.{length}
use Rattle.back_behind.specs.Model.{Sourced, note_down}
use Rattle.back_behind.proofs.note_down.Given as goal

abbrev pub invariant-loop-p : goal.invariant-loop-p
invariant-loop-p l = (l.low ≤ l.p) × (l.by ≡ note_down l.bottom.0 l.keys l.links l.certs l.order l.marks l.initial.by l.high (l.high - l.p)) × Sourced (length l.keys) l.by
