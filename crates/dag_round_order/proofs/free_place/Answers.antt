use Rattle.std.proofs.Common.{ℕ, ◌<◌, ◌≡◌, List, Bool, true, false, Option, Some, None, MatchOption, EachIndex, unwrap_or, take, length, get_or, refl, sym, ◌∙◌, arith, rules}
use Rattle.std.proofs.lemmas.List.{get_or-take, length-take-le, get_or-replicate}
use Rattle.models.specs.Tables.{is_used}
use Rattle.dag_round_order.specs.Free.{first_free, used_none, used_more, free-here, free-none}
use Rattle.dag_round_order.proofs.free_place.Goals as goal

pub loop-cell-init : goal.loop-cell-init
loop-cell-init c = (refl, λ s l. get_or-replicate 4096 s false false l ∙ sym (used_none _ s))

pub loop-cell-preserved : goal.loop-cell-preserved
loop-cell-preserved c =
    let a = c.args in
    let i = c.loop-cell.cell-index in
    let k : i < a.n = omega (arith, length-take-le a.n a.order.now c.requires.0) in
    let s : c.slot.result ≡ get_or a.order.now i 0 = c.slot.ensures ∙ get_or-take a.n a.order.now i 0 k in
    let h = c.requires.1.1 i k in
    (search rules, λ q b. rw s (used_more a.order.now c.loop-cell.seen i q (omega (arith, c.loop-cell.invariant.0)) (c.loop-cell.invariant.1 q b)))

-- the first cell that is not marked is the first free place
free_from : (o : List ℕ) (n places : ℕ) (xs : List Bool) (r : Option ℕ) → length xs ≡ places → ((s : ℕ) → s < places → get_or xs s false ≡ is_used o n s) → MatchOption r (EachIndex xs (λ k. get_or xs k false ≡ true)) (λ i. (i < length xs) × (get_or xs i false ≡ false) × ((k : ℕ) → k < i → get_or xs k false ≡ true)) → unwrap_or r places ≡ first_free o n places
free_from o n places xs None l m h = sym (free-none o n places (λ s b. sym (m s b) ∙ h s (omega arith)))
free_from o n places xs (Some i) l m h =
    let b : i < places = omega (arith, h.0) in
    sym (free-here o n places i b (sym (m i b) ∙ h.1) (λ j d. sym (m j (omega arith)) ∙ h.2 j d))

pub returns : goal.returns
returns c =
    let a = c.args in
    let xs = take a.places c.loop-cell.seen in
    let len = length-take-le a.places c.loop-cell.seen (omega (arith, c.loop-cell.invariant.0)) in
    let e : c.loop-cell.cell-index ≡ a.n = omega (arith, length-take-le a.n a.order.now c.requires.0) in
    let h : MatchOption c.position.result (EachIndex xs (λ k. get_or xs k false ≡ true)) (λ i. (i < length xs) × (get_or xs i false ≡ false) × ((k : ℕ) → k < i → get_or xs k false ≡ true)) = search rules in
    c.unwrap_or.ensures ∙ free_from a.order.now a.n a.places xs c.position.result len (λ s b. get_or-take a.places c.loop-cell.seen s false b ∙ (rw e at (c.loop-cell.invariant.1 s (omega arith)))) h
