use Rattle.std.proofs.Common.{◌<◌, ◌^◌, ℕ, true, refl, ap, length-take-le, arith}
use Rattle.std.proofs.lemmas.List.{get_or-take}
use Rattle.laws.specs.Peers.{with_peer}
use Rattle.inspector_references.specs.Sets.{union_none, union_yes, union_end}
use Rattle.inspector_not_referenced.specs.Signers.{place_authors}
use Rattle.inspector_not_referenced.proofs.place_authors.Goals as goal

pub loop-q-init : goal.loop-q-init
loop-q-init c = union_none _ _

pub author-requires : goal.author-requires
author-requires c =
    let p = c.requires in
    let l : c.loop-q.q-index < c.args.m = omega (arith, length-take-le c.args.m c.args.places.now p.m_in_bounds) in
    rw get_or-take ((p.by_index _ l).0)

pub with_peer-peers-requires : goal.with_peer-peers-requires
with_peer-peers-requires c =
    let p = c.requires in
    let l : c.loop-q.q-index < c.args.m = omega (arith, length-take-le c.args.m c.args.places.now p.m_in_bounds) in
    rw (c.author.ensures, get_or-take) ((p.by_index _ l).1)

pub loop-q-preserved : goal.loop-q-preserved
unfolding with_peer
loop-q-preserved c =
    let l = c.loop-q in
    let lt : l.q-index < c.args.m = omega (arith, length-take-le c.args.m c.args.places.now c.requires.m_in_bounds) in
    union_yes _ _ l.q-index l.peers _ l.invariant true refl _ refl (rw get_or-take at (ap (λ (x : ℕ). 2 ^ x) c.author.ensures)) c.with_peer-peers.ensures

pub returns : goal.returns
unfolding place_authors
returns c =
    let l = c.loop-q in
    let e = length-take-le c.args.m c.args.places.now c.requires.m_in_bounds in
    union_end _ _ l.q-index _ _ l.invariant (omega arith) (omega arith)
