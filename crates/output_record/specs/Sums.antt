-- The sums that a record ends with (02: N2).
use Rattle.std.specs.Prelude.{ℕ, suc, ◌+◌, ◌*◌, ◌-◌, ◌/◌, ◌%◌, ◌^◌, ◌<◌, ◌≤◌, ◌≡◌, refl, List, ◌++◌, Bool, true, false, cond}
use Rattle.std.proofs.Common.{sym, ap, ◌∙◌}
use native.Mathlib.Omega.{arith}
use Rattle.laws.specs.Lists.{up_to, weigh, weigh-append}
use Rattle.laws.specs.Bytes.{be}
use Rattle.models.specs.Digest.{Fit}
use Rattle.models.specs.Tables.{payload_at, place_at}
use Rattle.back_history.specs.Refines.{one, picked}

-- the two numbers of place q
abbrev pub len_at : List ℕ → ℕ → ℕ
len_at ls q = payload_at ls q / 4294967296

abbrev pub bytes_at : List ℕ → ℕ → ℕ
bytes_at ls q = payload_at ls q % 4294967296

-- the first has 32 bits too, as a half of a word
pub len_small : (ls : List ℕ) (q x : ℕ) → Fit ls → x ≡ payload_at ls q → x / 4294967296 ≤ 4294967295
len_small ls q x f e = let h = f (q * 328 + 7) in omega (arith, e)

-- their sums over the places that pass, of the k positions from low on
abbrev pub len_sum : List ℕ → List ℕ → (ℕ → Bool) → ℕ → ℕ → ℕ
len_sum ls os f low k = weigh (len_at ls) (picked os f low k)

abbrev pub bytes_sum : List ℕ → List ℕ → (ℕ → Bool) → ℕ → ℕ → ℕ
bytes_sum ls os f low k = weigh (bytes_at ls) (picked os f low k)

-- "an anchor record ends with their two 64-bit sums over its history"
unfoldable pub sums_of : ℕ → ℕ → List ℕ
sums_of len bytes = be 8 len ++ be 8 bytes

-- ---- the loop

-- at position i the sum is n, so small that one more number fits
abbrev pub SumTo : (ℕ → ℕ) → List ℕ → (ℕ → Bool) → ℕ → ℕ → ℕ → Type 0
SumTo g os f low i n = (n ≡ weigh g (picked os f low (i - low))) × (n ≤ (i - low) * 4294967295)

-- no sum leaves 64 bits: there are at most 4,096 positions
pub sum_fits : (n x i low high : ℕ) → n ≤ (i - low) * 4294967295 → i < high → high ≤ 4096 → x ≤ 4294967295 → n + x < 2 ^ 64
sum_fits n x i low high a b c d = omega arith

-- one position more
picked_more : (g : ℕ → ℕ) (os : List ℕ) (f : ℕ → Bool) (low k : ℕ) → weigh g (picked os f low (suc k)) ≡ weigh g (picked os f low k) + cond (f (place_at os (low + k))) (g (place_at os (low + k))) 0
unfolding picked up_to weigh one
picked_more g os f low k = weigh-append g (picked os f low k) (one (f (place_at os (low + k))) (place_at os (low + k))) ∙ ap (λ (n : ℕ). weigh g (picked os f low k) + n) (single (f (place_at os (low + k))) (place_at os (low + k)))
  where
    single : (b : Bool) (q : ℕ) → weigh g (one b q) ≡ cond b (g q) 0
    single true q = omega arith
    single false q = refl

module _ (g : ℕ → ℕ) (os : List ℕ) (f : ℕ → Bool) (low : ℕ) where
  -- at first
  pub sum-none : SumTo g os f low low 0
  unfolding picked up_to weigh
  sum-none = let z : low - low ≡ 0 = omega arith in rw z (refl, omega arith)

  module _ (i n q : ℕ) (h : SumTo g os f low i n) (l : low ≤ i) (is : q ≡ place_at os i) where
    -- what position i adds
    step : weigh g (picked os f low (i + 1 - low)) ≡ n + cond (f q) (g q) 0
    step =
        let e : i + 1 - low ≡ suc (i - low) = omega (arith, l) in
        let d : low + (i - low) ≡ i = omega (arith, l) in
        let back = sym h.0 in
        let p : place_at os (low + (i - low)) ≡ q = ap (place_at os) d ∙ sym is in
        ap (λ (k : ℕ). weigh g (picked os f low k)) e ∙ (picked_more g os f low (i - low) ∙ (λ j. back j + cond (f (p j)) (g (p j)) 0))

    -- a place that passes
    pub sum-yes : f q ≡ true → g q ≤ 4294967295 → (m : ℕ) → m ≡ n + g q → SumTo g os f low (i + 1) m
    sum-yes t s m e = (e ∙ sym (step ∙ ap (λ (b : Bool). n + cond b (g q) 0) t), omega (arith, h.1, l, s, e))

    -- one that doesn't
    pub sum_no : f q ≡ false → SumTo g os f low (i + 1) n
    sum_no t = (sym (step ∙ (ap (λ (b : Bool). n + cond b (g q) 0) t ∙ omega arith)), omega (arith, h.1, l))
