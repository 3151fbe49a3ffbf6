use Rattle.std.proofs.Common.{◌≡◌, ◌<◌, length, get_or, refl, ap, ◌∙◌, arith}
use Rattle.std.proofs.lemmas.List.{get_or-take, length-take-le}
use Rattle.dag_round_keys.specs.Zero.{emptied, emptied-length, emptied-more, emptied_end, place_inside}
use Rattle.dag_round_keys.proofs.zero_places.Goals as goal

pub loop-cell-init : goal.loop-cell-init
unfolding emptied
loop-cell-init c = refl

pub zero_words-requires : goal.zero_words-requires
zero_words-requires c =
    let a = c.args in
    let i = c.loop-cell.cell-index in
    let k : i < a.k = omega (arith, length-take-le a.k a.order.now c.requires.k_in_bounds.0) in
    let s : c.slot.result ≡ get_or a.order.now i 0 = c.slot.ensures ∙ get_or-take a.k a.order.now i 0 k in
    let h = c.requires.inside i k in
    let l = place_inside c.slot.result a.width (length a.order.now) (omega arith) in
    omega (arith, ap length c.loop-cell.invariant ∙ emptied-length _ _ _ _)

pub loop-cell-preserved : goal.loop-cell-preserved
loop-cell-preserved c =
    let a = c.args in
    let i = c.loop-cell.cell-index in
    let k : i < a.k = omega (arith, length-take-le a.k a.order.now c.requires.k_in_bounds.0) in
    let s : c.slot.result ≡ get_or a.order.now i 0 = c.slot.ensures ∙ get_or-take a.k a.order.now i 0 k in
    emptied-more a.t.now c.loop-cell.t _ a.width a.order.now i _ c.loop-cell.invariant s c.zero_words.ensures

pub returns : goal.returns
returns c = emptied_end _ _ _ _ _ _ c.loop-cell.invariant (omega (arith, length-take-le c.args.k c.args.order.now c.requires.k_in_bounds.0)) (omega (arith, length-take-le c.args.k c.args.order.now c.requires.k_in_bounds.0))
