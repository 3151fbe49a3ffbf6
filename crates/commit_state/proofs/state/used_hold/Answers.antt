use Rattle.std.proofs.Common.{ℕ, ◌+◌, ◌<◌, ◌≡◌, Bool, true, false, length, sym, refl, leb, arith, rules}
use borrow.Author.Tests.{tests}
use Rattle.std.specs.Bool.{MatchBool}
use Rattle.std.specs.List.{AllWithin, HoldsAt, range_with_len}
use Rattle.std.proofs.lemmas.Iterator.{cases_from_all, YieldsList-from_range}
use Rattle.std.proofs.lemmas.List.FromFn.{length-range_with_len, get_or-range_with_len}
use Rattle.laws.specs.Scan.{every, every_intro, every_not}
use Rattle.commit_state.specs.View.{record_of}
use Rattle.commit_state.specs.Numbers.{used_hold}
use Rattle.commit_state.proofs.state.used_hold.Goals as goal

-- the n numbers from b on
every_from : (f : ℕ → Bool) (b n : ℕ) (r : Bool) → MatchBool r (AllWithin (λ k. f k ≡ true) (range_with_len b n) 0 (length (range_with_len b n))) ((x : ℕ) × (x < length (range_with_len b n)) × HoldsAt (λ k. f k ≡ false) (range_with_len b n) x) → r ≡ every n (λ k. f (b + k))
every_from f b n true h =
    sym (every_intro n (λ k. f (b + k)) (λ k l. rw (get_or-range_with_len b n k 0 l) at (h k 0 (omega arith) (omega (arith, length-range_with_len b n)))))
every_from f b n false (x, l, h) =
    let m : x < n = omega (arith, length-range_with_len b n) in
    sym (every_not n (λ k. f (b + k)) x m (rw (get_or-range_with_len b n x 0 m) at (h 0)))

pub returns : goal.returns
unfolding used_hold record_of
returns c =
    let a = c.args in
    let b = a.s.now.bottom.0 in
    let f = λ (r : ℕ). leb (record_of a.s.now.rounds r).used_anchor_proof 32 in
    every_from f b a.n c.all.result
    (cases_from_all _ _ c.all.result (λ k. f k ≡ true) (λ k. f k ≡ false) c.all.ensures.ran (YieldsList-from_range b (b + a.n) a.n refl (omega arith)) (λ x q k. search (rules, tests)) (λ x q k. search (rules, tests)))
