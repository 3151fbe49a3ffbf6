use Prim.Native.Nat.{◌≤◌, ◌-◌}
use mathlib.Core.Path.{◌≡◌}
use Rattle.back_history.specs.Supposing.{supposing}
use Rattle.back_history.specs.Model.{swept}
use Rattle.back_history.proofs.sweep.Given as goal

abbrev pub invariant-loop-p : goal.invariant-loop-p
invariant-loop-p l = (l.low ≤ l.p) × (l.marks ≡ swept l.bottom.0 l.keys l.links (supposing l.taken l.certs) l.order l.initial.marks l.high (l.high - l.p))
