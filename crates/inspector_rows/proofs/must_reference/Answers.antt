use Rattle.std.proofs.Common.{◌<◌, length-take-le, arith}
use Rattle.std.proofs.lemmas.List.{get_or-take}
use Rattle.inspector_rows.specs.Rows.{stacked-none, stacked-more, stacked_end}
use Rattle.inspector_rows.proofs.must_reference.Goals as goal

pub loop-k-init : goal.loop-k-init
loop-k-init c = stacked-none _ _

pub must_row-row-requires : goal.must_row-row-requires
must_row-row-requires c =
    let p = c.requires in
    let l : c.loop-k.k < c.args.n = omega (arith, length-take-le c.args.n c.args.places.now p.n_in_bounds.0) in
    rw get_or-take (record { n_in_bounds = (p.n_in_bounds.0, p.by_index _ l); by_index = p.by_index })

pub loop-k-preserved : goal.loop-k-preserved
loop-k-preserved c =
    let l = c.loop-k in
    let x = c.must_row-row in
    let z = c.copy_words.ensures in
    let lt : l.k < c.args.n = omega (arith, length-take-le c.args.n c.args.places.now c.requires.n_in_bounds.0) in
    stacked-more _ _ l.k l.rows _ x.result l.invariant (rw get_or-take at x.ensures) z

pub returns : goal.returns
returns c = let l = c.loop-k in let e = length-take-le c.args.n c.args.places.now c.requires.n_in_bounds.0 in stacked_end _ _ l.k _ _ l.invariant (omega arith) (omega arith)
