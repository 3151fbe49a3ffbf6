use Rattle.std.proofs.Common.{◌≡◌, ◌<◌, ◌^◌, ℕ, List, get_or, take, arith}
use Rattle.std.proofs.lemmas.List.{get_or-take}
use Rattle.std.proofs.Common.{length-take-le}
use mathlib.Core.Path.{◌∙◌, ap}
use Rattle.laws.specs.Peers.{with_peer}
use Rattle.inspector_references.specs.Sets.{union_none, union_yes, union_no, union_end}
use Rattle.inspector_references.specs.Referring.{referring_by}
use Rattle.inspector_references.proofs.referring.Goals as goal
use Rattle.inspector_references.proofs.referring.Goals.{then-refers_row, else-refers_row}

-- the elements of the first part of a list
item : (qs : List ℕ) (n j : ℕ) → j < n → get_or (take n qs) j 0 ≡ get_or qs j 0
item qs n j l = get_or-take n qs j 0 l

pub loop-q-init : goal.loop-q-init
loop-q-init c = union_none _ _

pub refers_row-requires : goal.refers_row-requires
refers_row-requires c =
    let p = c.requires in
    let l : c.loop-q.q-index < c.args.n = omega (arith, length-take-le c.args.n c.args.places.now p.n_in_bounds.0) in
    rw item (((p.by_index _ l).1, p.n_in_bounds.1, p.n_in_bounds.2))

pub author-requires : goal.author-requires
author-requires c =
    let p = c.requires in
    let l : c.loop-q.q-index < c.args.n = omega (arith, length-take-le c.args.n c.args.places.now p.n_in_bounds.0) in
    rw item ((p.by_index _ l).0)

pub with_peer-peers-requires : goal.with_peer-peers-requires
with_peer-peers-requires c =
    let p = c.requires in
    let l : c.loop-q.q-index < c.args.n = omega (arith, length-take-le c.args.n c.args.places.now p.n_in_bounds.0) in
    let h = (p.by_index _ l).2 in
    rw (c.author.ensures, item) h

pub loop-q-preserved : goal.loop-q-preserved
unfolding with_peer
loop-q-preserved c =
    let l = c.loop-q in
    let lt : l.q-index < c.args.n = omega (arith, length-take-le c.args.n c.args.places.now c.requires.n_in_bounds.0) in
    let is = rw item at c.refers_row.ensures in
    elim c.if-refers_row.branch [ then-refers_row w ↦ union_yes _ _ l.q-index l.peers _ l.invariant _ is _ w.if-refers_row.true (rw item at (ap (λ (x : ℕ). 2 ^ x) w.author.ensures)) (w.peers-is ∙ w.with_peer-peers.ensures) | else-refers_row w ↦ union_no _ _ l.q-index l.peers _ l.invariant _ is w.if-refers_row.false w.peers-is ]

pub returns : goal.returns
unfolding referring_by
returns c =
    let l = c.loop-q in
    let e = length-take-le c.args.n c.args.places.now c.requires.n_in_bounds.0 in
    union_end _ _ l.q-index _ _ l.invariant (omega arith) (omega arith)
