use Prim.Native.Nat.{◌^◌}
use mathlib.Core.Path.{◌≡◌}
use Rattle.inspector_references.specs.Sets.{union_of}
use Rattle.inspector_references.specs.Referring.{row_author}
use Rattle.inspector_not_referenced.specs.Signers.{always}
use Rattle.inspector_not_referenced.proofs.row_authors.Given as goal

abbrev pub invariant-loop-k : goal.invariant-loop-k
invariant-loop-k l = (l.peers ≡ union_of always (λ j. 2 ^ row_author l.rows j) l.k)
