use Rattle.std.proofs.Common.{ℕ, List, ◌≡◌, ◌<◌, ◌∙◌, sym, arith, rules, length, get_or, take, get_or-take, length-take-le}
use Rattle.std.proofs.lemmas.List.{length-take}
use Rattle.show.specs.Points.{Readable, reads_cert, reads-key}
use Rattle.show.proofs.state.write_points.Goals as goal

below : (os : List ℕ) (n i : ℕ) → i < length (take n os) → i < n
below os n i l = omega (arith, length-take n os)

-- the place at i, among the first n cells
place : (os : List ℕ) (n i q : ℕ) → i < length (take n os) → q ≡ get_or (take n os) i 0 → q ≡ get_or os i 0
place os n i q l e = e ∙ get_or-take n os i 0 (below os n i l)

pub slice_bounds-place-items-end : goal.slice_bounds-place-items-end
unfolding Readable
slice_bounds-place-items-end c = sym (length-take-le _ _ c.requires.2)

pub bounds-certs-q : goal.bounds-certs-q
bounds-certs-q c =
    let l = c.loop-place-test.true in
    reads_cert _ _ _ _ _ c.requires (below _ _ _ l) _ (place _ _ _ _ l c.slot-q.ensures)

pub offset_bounds-certs-q : goal.offset_bounds-certs-q
offset_bounds-certs-q c =
    let l = c.loop-place-test.true in
    let h = reads_cert _ _ _ _ _ c.requires (below _ _ _ l) _ (place _ _ _ _ l c.slot-q.ensures) in
    search rules

pub write_point-requires : goal.write_point-requires
write_point-requires c =
    let l = c.loop-place-test.true in
    reads-key _ _ _ _ _ c.requires (below _ _ _ l) _ (place _ _ _ _ l c.slot-q.ensures)
