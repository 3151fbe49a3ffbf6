use Prim.Native.Nat.{◌≤◌, ◌-◌}
use mathlib.Core.Path.{◌≡◌}
use Rattle.cert_certify.specs.Model.{work, visited}
use Rattle.cert_certify.proofs.certify_queued.Given as goal

-- Entry after entry.
abbrev pub invariant-loop-head : goal.invariant-loop-head
invariant-loop-head l =
    (l.head ≤ 4096) × (work l.certs l.queue l.tail ≡ visited l.bottom.0 l.keys l.links (work l.initial.certs l.initial.queue 1) l.head)

abbrev pub decreases-loop-head : goal.decreases-loop-head
decreases-loop-head l = 4096 - l.head
