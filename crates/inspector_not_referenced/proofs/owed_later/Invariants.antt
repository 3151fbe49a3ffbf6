use Rattle.std.proofs.Common.{◌≡◌, ◌+◌, ◌-◌}
use Rattle.inspector_references.specs.Sets.{union_of}
use Rattle.inspector_references.specs.Referring.{row_peers}
use Rattle.inspector_not_referenced.specs.Later.{same_previous}
use Rattle.inspector_not_referenced.proofs.owed_later.Given as goal

abbrev pub invariant-loop-j : goal.invariant-loop-j
invariant-loop-j l = l.peers ≡ union_of (λ i. same_previous l.rows l.k (l.k + 1 + i)) (λ i. row_peers l.rows (l.k + 1 + i)) (l.j - (l.k + 1))
