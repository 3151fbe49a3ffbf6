use Rattle.std.proofs.Common.{◌≡◌, ◌^◌, get_or}
use Rattle.models.specs.Tables.{author_at}
use Rattle.inspector_references.specs.Sets.{union_of}
use Rattle.inspector_not_referenced.specs.Signers.{always}
use Rattle.inspector_not_referenced.proofs.place_authors.Given as goal

abbrev pub invariant-loop-q : goal.invariant-loop-q
invariant-loop-q l = l.peers ≡ union_of always (λ i. 2 ^ author_at l.keys (get_or l.places i 0)) l.q-index
