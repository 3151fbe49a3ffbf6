use Rattle.std.proofs.Common.{◌≡◌, ◌^◌, get_or}
use Rattle.models.specs.Tables.{author_at}
use Rattle.inspector_references.specs.Sets.{union_of}
use Rattle.inspector_references.specs.Referring.{refers_row}
use Rattle.inspector_references.proofs.referring.Given as goal

abbrev pub invariant-loop-q : goal.invariant-loop-q
invariant-loop-q l =
    l.peers ≡ union_of (λ i. refers_row l.links (get_or l.places i 0) l.first l.live l.rows l.k) (λ i. 2 ^ author_at l.keys (get_or l.places i 0)) l.q-index
