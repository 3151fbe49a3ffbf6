use Rattle.std.proofs.Common.{ℕ, ◌+◌, ◌-◌, ◌<◌, ◌≡◌, Bool, true, false, length, sym, refl, arith, rules}
use borrow.Author.Tests.{tests}
use Rattle.std.specs.Bool.{MatchBool}
use Rattle.std.specs.List.{AllWithin, HoldsAt, range_with_len}
use Rattle.std.proofs.lemmas.Iterator.{cases_from_any, YieldsList-from_range}
use Rattle.std.proofs.lemmas.List.FromFn.{length-range_with_len, get_or-range_with_len}
use Rattle.laws.specs.Test.{by_test, clash}
use Rattle.laws.specs.Scan.{any, any_intro, any_elim}
use Rattle.info_checks.specs.Dangling.{is_dangling}
use Rattle.info_checks.proofs.any_dangling.Goals as goal

-- one of the n numbers from b on
any_from : (f : ℕ → Bool) (b n : ℕ) (r : Bool) → MatchBool r ((x : ℕ) × (x < length (range_with_len b n)) × HoldsAt (λ k. f k ≡ true) (range_with_len b n) x) (AllWithin (λ k. f k ≡ false) (range_with_len b n) 0 (length (range_with_len b n))) → r ≡ any n (λ k. f (b + k))
any_from f b n true (x, l, h) =
    let m : x < n = omega (arith, length-range_with_len b n) in
    sym (any_intro n (λ k. f (b + k)) x m (rw (get_or-range_with_len b n x 0 m) at (h 0)))
any_from f b n false h =
    by_test (any n (λ k. f (b + k)))
    (λ t. let (x, l, e) = any_elim n (λ k. f (b + k)) t in
    absurd (clash e (rw (get_or-range_with_len b n x 0 l) at (h x 0 (omega arith) (omega (arith, length-range_with_len b n))))))
    (λ e. sym e)

pub returns : goal.returns
returns c =
    let a = c.args in
    let f = is_dangling a.s.now a.keys.now a.order.now a.refs.now a.d a.round.0 in
    let e : a.from + a.m - a.from ≡ a.m = omega arith in
    any_from f a.from a.m c.any.result
    (cases_from_any _ _ c.any.result (λ k. f k ≡ true) (λ k. f k ≡ false) c.any.ensures.ran (YieldsList-from_range a.from (a.from + a.m) a.m refl e) (λ x q k. search (rules, tests)) (λ x q k. search (rules, tests)))
