use Rattle.std.proofs.Common.{ℕ, ◌+◌, ◌-◌, ◌<◌, ◌≡◌, List, Bool, true, false, length, get_or, take, drop, arith, rules, refl, subst}
use borrow.Author.Tests.{tests}
use Rattle.std.proofs.iter.Serving.{serving}
use Rattle.std.proofs.lemmas.List.{length-take, length-drop}
use Rattle.std.proofs.lemmas.Iterator.{YieldsList-from_slice, IsFirst-from_position}
use Rattle.models.specs.Tables.{place_at}
use Rattle.back_history.proofs.Cells.{cell, cells_inside}
use Rattle.back_order.specs.Picks.{marked_at, passed_here, passed-all}
use Rattle.back_order.proofs.pick.Goals as goal

-- what is known of the place in cell j is known of position at + j
of_cell : (os : List ℕ) (m : List Bool) (b : Bool) (at high j : ℕ) → j < length (take (high - at) (drop at os)) → get_or m (get_or (take (high - at) (drop at os)) j 0) false ≡ b → marked_at os m (at + j) ≡ b
of_cell os m b at high j l h = subst (λ w. get_or m w false ≡ b) (cell os at high j _ l refl) h

pub position-requires-clause-callable : goal.position-requires-clause-callable
position-requires-clause-callable c =
    let a = c.args in
    let h = cells_inside a.order.now a.at a.high (length a.order.now) c.requires.3 in
    grind serving

pub returns-in-Some : goal.returns-in-Some
returns-in-Some c =
    let a = c.args in
    let (l, hit, miss) = IsFirst-from_position _ _ _ (λ w. get_or a.marks.now w false ≡ true) (λ w. get_or a.marks.now w false ≡ false) c.in-Some.ensures.ran (YieldsList-from_slice (take (a.high - a.at) (drop a.at a.order.now)) cc) (λ x q k. search (rules, tests)) (λ x q k. search (rules, tests)) in
    passed_here a.order.now a.marks.now a.at a.high c.in-Some.passed (place_at a.order.now (a.at + c.in-Some.passed)) _ (omega (arith, l, length-take {A = ℕ})) refl
    (λ j b. of_cell a.order.now a.marks.now false a.at a.high j (omega (arith, l, b)) (miss j 0 (omega arith) b))
    (of_cell a.order.now a.marks.now true a.at a.high c.in-Some.passed l (hit 0)) refl

pub returns-in-None : goal.returns-in-None
returns-in-None c =
    let a = c.args in
    let miss = IsFirst-from_position _ _ _ (λ w. get_or a.marks.now w false ≡ true) (λ w. get_or a.marks.now w false ≡ false) c.in-None.ensures.ran (YieldsList-from_slice (take (a.high - a.at) (drop a.at a.order.now)) cc) (λ x q k. search (rules, tests)) (λ x q k. search (rules, tests)) in
    passed-all a.order.now a.marks.now a.at a.high (length (take (a.high - a.at) (drop a.at a.order.now))) c.requires.0 (omega (arith, length-take {A = ℕ}, length-drop {A = ℕ})) (λ j b. of_cell a.order.now a.marks.now false a.at a.high j b (miss j 0 (omega arith) b))
