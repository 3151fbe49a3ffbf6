use Rattle.std.proofs.Common.{◌≡◌, ℕ, ◌-◌, ◌<◌, ◌≤◌, true, ltb, List, length, take, sym, ◌∙◌, arith, length-take, length-take-le, rules, ltb-true}
use Rattle.play_input.specs.Fed.{fed_part}
use Rattle.play_input.proofs.input.play_some.Goals as goal

-- what is within the first n is at most n
taken : (a n : ℕ) (xs : List ℕ) → a ≤ length (take n xs) → a ≤ n
taken a n xs h = omega (arith, h, length-take n xs)

rest-held : (a n l m : ℕ) → m ≡ l → n ≤ l → n - a ≤ m
rest-held a n l m e h = omega arith

not_full : (n l m : ℕ) → l ≡ m → ltb n l ≡ true → n < m
not_full n l m e t = omega (arith, ltb-true n l t)

pub slice_bounds-play_part-end-2 : goal.slice_bounds-play_part-end-2
slice_bounds-play_part-end-2 c = sym (length-take-le _ _ c.refill-n.ensures.1)

pub slice_bounds-write_all-end-2 : goal.slice_bounds-write_all-end-2
slice_bounds-write_all-end-2 c = sym (length-take-le _ _ c.play_part-part.ensures.ends.0)

pub move_down-requires : goal.move_down-requires
move_down-requires c = (taken _ _ _ c.play_part-part.ensures.ends.1.0, c.refill-n.ensures.1)

pub overflow_sub-result : goal.overflow_sub-result
overflow_sub-result c = taken _ _ _ c.play_part-part.ensures.ends.1.0

pub overflow_sub-n : goal.overflow_sub-n
overflow_sub-n c = taken _ _ _ c.play_part-part.ensures.ends.1.0

pub returns : goal.returns
returns c =
    let f = c.refill-n in
    let r = f.ensures in
    let p = c.play_part-part.ensures in (
      rest-held _ _ _ _ c.move_down.auto.input r.1,
      fed_part _ _ _ _ _ _ r _ _ _ _ _ _ _ _ _ _ _ _ _ p.runs.runs p.ends.1 (not_full _ _ _ f.auto.input) c.wrapping_add_u64.ensures.value c.goes_on.ensures c.move_down.ensures,
    )
