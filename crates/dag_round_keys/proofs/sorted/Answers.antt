use Rattle.std.proofs.Common.{ℕ, zero, suc, ◌+◌, ◌-◌, ◌/◌, ◌<◌, ◌≡◌, List, Bool, true, false, length, get_or, sym, refl, arith, rules}
use borrow.Author.Tests.{tests}
use Rattle.std.specs.Bool.{MatchBool}
use Rattle.std.specs.List.{AllWithin, HoldsAt, range_with_len}
use Rattle.std.proofs.lemmas.Iterator.{cases_from_all, serves_from_Range, YieldsList-from_range}
use Rattle.std.proofs.lemmas.List.FromFn.{length-range_with_len, get_or-range_with_len}
use Rattle.dag_round_keys.specs.Key.{before}
use Rattle.dag_round_keys.specs.Sorted.{Sorted, key_at, is_sorted, sorted_is, sorted_not, sorted_more}
use Rattle.dag_round_keys.proofs.sorted.Goals as goal

-- neighbours that rise are enough
rising : (ks o : List ℕ) (n : ℕ) → ((k : ℕ) → 0 < k → k < n → before (key_at ks o (k - 1)) (key_at ks o k) ≡ true) → Sorted ks o n
rising ks o zero h a b l m = absurd (omega arith)
rising ks o (suc zero) h a b l m = absurd (omega arith)
rising ks o (suc (suc n)) h a b l m =
    sorted_more ks o (suc n) (omega arith) (rising ks o (suc n) (λ k i j. h k i (omega arith))) (h (suc n) (omega arith) (omega arith)) a b l (omega arith)

-- what the test of the neighbours says
neighbours : (ks o : List ℕ) (n : ℕ) (r : Bool) → MatchBool r (AllWithin (λ k. before (key_at ks o (k - 1)) (key_at ks o k) ≡ true) (range_with_len 1 (n - 1)) 0 (length (range_with_len 1 (n - 1)))) ((x : ℕ) × (x < length (range_with_len 1 (n - 1))) × HoldsAt (λ k. before (key_at ks o (k - 1)) (key_at ks o k) ≡ false) (range_with_len 1 (n - 1)) x) → r ≡ is_sorted ks o n
neighbours ks o n true h =
    sym ((sorted_is ks o n).1 (rising ks o n (λ k l m.
    let e : 1 + (k - 1) ≡ k = omega arith in
    let i : k - 1 < n - 1 = omega arith in
    rw (get_or-range_with_len 1 (n - 1) (k - 1) 0 i, e) at (h (k - 1) 0 (omega arith) (omega (arith, length-range_with_len 1 (n - 1)))))))
neighbours ks o n false (x, l, h) =
    let i : x < n - 1 = omega (arith, length-range_with_len 1 (n - 1)) in
    sym (sorted_not ks o n (1 + x - 1) (1 + x) (omega arith) (omega arith) (rw (get_or-range_with_len 1 (n - 1) x 0 i) at (h 0)))

pub all-requires-clause-callable : goal.all-requires-clause-callable
all-requires-clause-callable c =
    let a = c.args in
    serves_from_Range (λ x q k. search (rules, tests))
    (λ k l m.
    let low : get_or a.order.now (k - 1) 0 < length a.keys.now / 8 = c.requires.1 (k - 1) (omega arith) in
    let high : get_or a.order.now k 0 < length a.keys.now / 8 = c.requires.1 k (omega arith) in
    search (rules, low, high))

pub returns : goal.returns
returns c =
    let a = c.args in
    let ks = a.keys.now in
    let o = a.order.now in
    neighbours ks o a.n c.all.result
    (cases_from_all _ _ c.all.result (λ k. before (key_at ks o (k - 1)) (key_at ks o k) ≡ true) (λ k. before (key_at ks o (k - 1)) (key_at ks o k) ≡ false) c.all.ensures.ran (YieldsList-from_range 1 a.n (a.n - 1) refl refl) (λ x q k. search (rules, tests)) (λ x q k. search (rules, tests)))
