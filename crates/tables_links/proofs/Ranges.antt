-- What `all` says of a test at each number of a range.
use Rattle.std.proofs.Common.{ℕ, ◌+◌, ◌-◌, ◌<◌, ◌≤◌, ◌≡◌, ◌≢◌, List, Bool, true, false, length, sym, zero-add, arith}
use Rattle.std.specs.Bool.{MatchBool}
use Rattle.std.specs.List.{AllWithin, HoldsAt, range_with_len}
use Rattle.std.proofs.lemmas.List.FromFn.{length-range_with_len, get_or-range_with_len}
use Rattle.laws.specs.Test.{le_or}
use Rattle.laws.specs.Scan.{every, every_intro, every_not}
use Rattle.models.specs.Tables.{target_at}
use Rattle.tables_links.specs.Bare.{empty_at, empty_below, empty_more, empty_fails}

-- the numbers below n
pub every_all : (f : ℕ → Bool) (n : ℕ) (r : Bool) → MatchBool r (AllWithin (λ k. f k ≡ true) (range_with_len 0 n) 0 (length (range_with_len 0 n))) ((x : ℕ) × (x < length (range_with_len 0 n)) × HoldsAt (λ k. f k ≡ false) (range_with_len 0 n) x) → r ≡ every n f
every_all f n true h =
    sym (every_intro n f (λ k l. rw (get_or-range_with_len 0 n k 0 l, zero-add k) at (h k 0 (omega arith) (omega (arith, length-range_with_len 0 n)))))
every_all f n false (x, l, h) =
    let b : x < n = omega (arith, length-range_with_len 0 n) in
    sym (every_not n f x b (rw (get_or-range_with_len 0 n x 0 b, zero-add x) at (h 0)))

-- the links from m on are none
pub empty_all : (ls : List ℕ) (q m : ℕ) (r : Bool) → m ≤ 64 → MatchBool r (AllWithin (λ k. target_at ls q k ≡ 0) (range_with_len m (64 - m)) 0 (length (range_with_len m (64 - m)))) ((x : ℕ) × (x < length (range_with_len m (64 - m))) × HoldsAt (λ k. target_at ls q k ≢ 0) (range_with_len m (64 - m)) x) → r ≡ every 64 (empty_at ls q m)
empty_all ls q m true b h =
    sym (every_intro 64 (empty_at ls q m) (λ k l. le_or m k
    (λ g. let e : m + (k - m) ≡ k = omega arith in
    let i : k - m < 64 - m = omega arith in
    empty_more ls q m k (rw (get_or-range_with_len m (64 - m) (k - m) 0 i, e) at (h (k - m) 0 (omega arith) (omega (arith, length-range_with_len m (64 - m))))))
    (λ g. empty_below ls q m k g)))
empty_all ls q m false b (x, l, h) =
    let i : x < 64 - m = omega (arith, length-range_with_len m (64 - m)) in
    sym (every_not 64 (empty_at ls q m) (m + x) (omega arith) (empty_fails ls q m (m + x) (omega arith) (rw (get_or-range_with_len m (64 - m) x 0 i) at (h 0))))
