use Rattle.std.proofs.Common.{ℕ, ◌<◌, ◌≡◌, ◌∙◌, true, false, sym, get_or, below_none, below_more, arith, rules}
use Rattle.std.proofs.lemmas.List.{get_or-take, length-take-le}
use Rattle.laws.specs.Scan.{every_intro, every_not}
use Rattle.tables_ids.specs.Model.{versions_hold, room_fits, tallied_more}
use Rattle.tables_ids.proofs.count_all.Goals as goal

pub loop-place-init : goal.loop-place-init
loop-place-init c = (below_none _, c.requires.tallied)

pub count_one-requires : goal.count_one-requires
count_one-requires c =
    let a = c.args in
    let i = c.loop-place.place-index in
    let k : i < a.n = omega (arith, length-take-le a.n a.order.now c.requires.keys_len.1) in
    let s : c.slot.result ≡ get_or a.order.now i 0 = c.slot.ensures ∙ get_or-take a.n a.order.now i 0 k in
    (c.loop-place.invariant.1.0, omega (arith, c.requires.inside i k))

pub returns-then-not-count_one : goal.returns-then-not-count_one
unfolding versions_hold
returns-then-not-count_one c =
    let a = c.args in
    let i = c.loop-place.place-index in
    let k : i < a.n = omega (arith, length-take-le a.n a.order.now c.requires.keys_len.1) in
    let s : c.slot.result ≡ get_or a.order.now i 0 = c.slot.ensures ∙ get_or-take a.n a.order.now i 0 k in
    let no : c.count_one.result ≡ false = search rules in
    sym (every_not _ _ i k (sym (room_fits a.keys.now a.order.now c.loop-place.seen i _ c.loop-place.invariant.1 s) ∙ sym c.count_one.ensures.value ∙ no))

pub loop-place-preserved : goal.loop-place-preserved
loop-place-preserved c =
    let a = c.args in
    let i = c.loop-place.place-index in
    let k : i < a.n = omega (arith, length-take-le a.n a.order.now c.requires.keys_len.1) in
    let s : c.slot.result ≡ get_or a.order.now i 0 = c.slot.ensures ∙ get_or-take a.n a.order.now i 0 k in
    let yes : c.count_one.result ≡ true = search rules in
    let r = sym c.count_one.ensures.value ∙ yes in
    let t = c.loop-place.invariant.1 in
    (below_more _ _ c.loop-place.invariant.0 (sym (room_fits a.keys.now a.order.now c.loop-place.seen i _ t s) ∙ r), tallied_more a.keys.now a.order.now c.loop-place.seen i _ t s _ c.count_one.ensures.seen_after r)

pub returns : goal.returns
unfolding versions_hold
returns c = sym (every_intro _ _ (λ k l. c.loop-place.invariant.0 k (omega (arith, length-take-le c.args.n c.args.order.now c.requires.keys_len.1))))
