-- Counters of a peer as the definitions', their sum and score (01: 'inspector.rs, stats.rs').
use Rattle.std.specs.Prelude.{ℕ, zero, suc, ◌+◌, ◌*◌, ◌<◌, ◌≤◌, min, ◌≡◌, refl, List, [], ◌∷◌, get_or}
use Rattle.std.proofs.Common.{sym, ap, ap₂, ◌∙◌, lt-ltb, le-ltb, mul-le-mul_right, add-one}
use native.Mathlib.Omega.{arith}
use Rattle.laws.specs.Test.{cond_yes, cond_no}
use Rattle.spec.specs.Inspect.{Counters, add, score, score_from, counter_list, weight, weights, band}
use Rattle.spec.specs.Inspection.{AtMost}
use Rattle.stats.specs.declared.MempoolPeerCounters.{MempoolPeerCounters}

unfoldable pub counters_of : MempoolPeerCounters → Counters
counters_of c = record {
  was_leader = c.was_leader;
  skipped_rounds = c.skipped_rounds;
  valid_points = c.valid_points;
  points_proved = c.points_proved;
  equivocated = c.equivocated;
  trans_invalid = c.trans_invalid_points;
  invalid = c.invalid_points;
  ill_formed = c.ill_formed_points;
  references_skipped = c.references_skipped;
}

-- the nine in their order
abbrev pub nine : ℕ → ℕ → ℕ → ℕ → ℕ → ℕ → ℕ → ℕ → ℕ → MempoolPeerCounters
nine a b c d e f g h i = record {
  was_leader = a;
  skipped_rounds = b;
  valid_points = c;
  points_proved = d;
  equivocated = e;
  trans_invalid_points = f;
  invalid_points = g;
  ill_formed_points = h;
  references_skipped = i;
}

-- no counts
abbrev pub no_counters : MempoolPeerCounters
no_counters = nine 0 0 0 0 0 0 0 0 0

-- counter by counter
abbrev each : (ℕ → ℕ → ℕ) → MempoolPeerCounters → MempoolPeerCounters → MempoolPeerCounters
each f x y = record {
  was_leader = f x.was_leader y.was_leader;
  skipped_rounds = f x.skipped_rounds y.skipped_rounds;
  valid_points = f x.valid_points y.valid_points;
  points_proved = f x.points_proved y.points_proved;
  equivocated = f x.equivocated y.equivocated;
  trans_invalid_points = f x.trans_invalid_points y.trans_invalid_points;
  invalid_points = f x.invalid_points y.invalid_points;
  ill_formed_points = f x.ill_formed_points y.ill_formed_points;
  references_skipped = f x.references_skipped y.references_skipped;
}

-- each counter is at most n
abbrev pub Below : ℕ → MempoolPeerCounters → Type 0
Below n c = AtMost n (counters_of c)

-- the sum of both
unfoldable pub sum_of : MempoolPeerCounters → MempoolPeerCounters → MempoolPeerCounters
sum_of = each ◌+◌

-- it has room in 16 bits
abbrev pub Fitting : MempoolPeerCounters → MempoolPeerCounters → Type 0
Fitting x y = Below 65535 (sum_of x y)

-- two counts in 16 bits: the sum stops at the most that they hold
abbrev pub sum16 : ℕ → ℕ → ℕ
sum16 m n = min (m + n) 65535

-- the sum of both in 16 bits
unfoldable pub merge_of : MempoolPeerCounters → MempoolPeerCounters → MempoolPeerCounters
merge_of = each sum16

-- with the number n of references skipped
abbrev pub set_skipped : MempoolPeerCounters → ℕ → MempoolPeerCounters
set_skipped c n = nine c.was_leader c.skipped_rounds c.valid_points c.points_proved c.equivocated c.trans_invalid_points c.invalid_points c.ill_formed_points n

-- with n more of them
unfoldable pub with_skipped : MempoolPeerCounters → ℕ → MempoolPeerCounters
with_skipped c n = set_skipped c (sum16 c.references_skipped n)

-- the sum of the first k parts of the score
unfoldable pub score_to : List ℕ → ℕ → ℕ
score_to xs zero = 0
score_to xs (suc k) = score_to xs k + get_or xs k 0 * weight k (get_or xs k 0)

-- ---- laws

pub sum_is : (x y : MempoolPeerCounters) → counters_of (sum_of x y) ≡ add (counters_of x) (counters_of y)
unfolding counters_of sum_of add
sum_is x y = refl

-- what fits is the sum
fits_is : (n : ℕ) → n ≤ 65535 → min n 65535 ≡ n
fits_is n h = omega arith

module _ (x y : MempoolPeerCounters) where
  -- a sum that fits is the sum
  pub merge-fits : Fitting x y → merge_of x y ≡ sum_of x y
  unfolding merge_of sum_of counters_of
  merge-fits h = λ i. nine (fits_is (x.was_leader + y.was_leader) h.was_leader i) (fits_is (x.skipped_rounds + y.skipped_rounds) h.skipped_rounds i) (fits_is (x.valid_points + y.valid_points) h.valid_points i) (fits_is (x.points_proved + y.points_proved) h.points_proved i) (fits_is (x.equivocated + y.equivocated) h.equivocated i) (fits_is (x.trans_invalid_points + y.trans_invalid_points) h.trans_invalid i) (fits_is (x.invalid_points + y.invalid_points) h.invalid i) (fits_is (x.ill_formed_points + y.ill_formed_points) h.ill_formed i) (fits_is (x.references_skipped + y.references_skipped) h.references_skipped i)

  -- so it is 01's
  pub merge_is : Fitting x y → counters_of (merge_of x y) ≡ add (counters_of x) (counters_of y)
  merge_is h = ap counters_of (merge-fits h) ∙ sum_is x y

  module _ (m n : ℕ) (a : Below m x) (b : Below n y) where
    pub sum_fits : m + n ≤ 65535 → Fitting x y
    unfolding sum_of counters_of
    sum_fits h = omega arith

    pub merge-below : Below (m + n) (merge_of x y)
    unfolding merge_of counters_of
    merge-below = omega arith

-- at most m, so at most n
pub below_more : (m n : ℕ) (c : MempoolPeerCounters) → m ≤ n → Below m c → Below n c
unfolding counters_of
below_more m n c l h = omega arith

-- the first number added
pub sum16-first : (n : ℕ) → n < 65536 → sum16 0 n ≡ n
sum16-first n h = omega arith

-- from what the code computes
pub merge_from : (x y : MempoolPeerCounters) (a b c d e f g h i : ℕ)
    → a ≡ sum16 x.was_leader y.was_leader → b ≡ sum16 x.skipped_rounds y.skipped_rounds → c ≡ sum16 x.valid_points y.valid_points
    → d ≡ sum16 x.points_proved y.points_proved → e ≡ sum16 x.equivocated y.equivocated → f ≡ sum16 x.trans_invalid_points y.trans_invalid_points
    → g ≡ sum16 x.invalid_points y.invalid_points → h ≡ sum16 x.ill_formed_points y.ill_formed_points → i ≡ sum16 x.references_skipped y.references_skipped
    → nine a b c d e f g h i ≡ merge_of x y
unfolding merge_of
merge_from x y a b c d e f g h i a₁ b₁ c₁ d₁ e₁ f₁ g₁ h₁ i₁ = λ j. nine (a₁ j) (b₁ j) (c₁ j) (d₁ j) (e₁ j) (f₁ j) (g₁ j) (h₁ j) (i₁ j)

pub skipped_from : (c o r : MempoolPeerCounters) (n : ℕ) → Below 65535 c → o ≡ no_counters → r ≡ merge_of c (set_skipped o n) → r ≡ with_skipped c n
unfolding merge_of with_skipped counters_of
skipped_from c o r n h e k =
    k
    ∙ (ap (λ x. merge_of c (set_skipped x n)) e
    ∙ (λ i. nine (same c.was_leader h.was_leader i) (same c.skipped_rounds h.skipped_rounds i) (same c.valid_points h.valid_points i) (same c.points_proved h.points_proved i) (same c.equivocated h.equivocated i) (same c.trans_invalid_points h.trans_invalid i) (same c.invalid_points h.invalid i) (same c.ill_formed_points h.ill_formed i) (sum16 c.references_skipped n)))
  where
    same : (m : ℕ) → m ≤ 65535 → sum16 m 0 ≡ m
    same m l = omega arith

-- ---- the score

-- a count's band
pub band_low : (n : ℕ) → n < 10 → (0 ≡ band n) × (0 < 3)
unfolding band
band_low n h = (sym (cond_yes _ _ _ (lt-ltb n 10 h) refl), omega arith)

pub band_middle : (n : ℕ) → 10 ≤ n → n < 100 → (1 ≡ band n) × (1 < 3)
unfolding band
band_middle n h k = (sym (cond_no _ _ _ (le-ltb n 10 h) (cond_yes _ _ _ (lt-ltb n 100 k) refl)), omega arith)

pub band_high : (n : ℕ) → 10 ≤ n → 100 ≤ n → (2 ≡ band n) × (2 < 3)
unfolding band
band_high n h k = (sym (cond_no _ _ _ (le-ltb n 10 h) (cond_no _ _ _ (le-ltb n 100 k) refl)), omega arith)

-- no weight is above 60
weight_most : (i n : ℕ) → weight i n ≤ 60
unfolding weight
weight_most i n = go i
  where
    row : (j a b c : ℕ) → a ≤ 60 → b ≤ 60 → c ≤ 60 → get_or (a ∷ b ∷ c ∷ []) j 0 ≤ 60
    row zero a b c x y z = x
    row (suc zero) a b c x y z = y
    row (suc (suc zero)) a b c x y z = z
    row (suc (suc (suc j))) a b c x y z = omega arith

    go : (i : ℕ) → get_or (get_or weights i []) (band n) 0 ≤ 60
    go zero = row (band n) 0 0 0 (omega arith) (omega arith) (omega arith)
    go (suc zero) = row (band n) 2 3 4 (omega arith) (omega arith) (omega arith)
    go (suc (suc zero)) = row (band n) 0 0 0 (omega arith) (omega arith) (omega arith)
    go (suc (suc (suc zero))) = row (band n) 0 0 0 (omega arith) (omega arith) (omega arith)
    go (suc (suc (suc (suc zero)))) = row (band n) 20 40 60 (omega arith) (omega arith) (omega arith)
    go (suc (suc (suc (suc (suc zero))))) = row (band n) 5 8 12 (omega arith) (omega arith) (omega arith)
    go (suc (suc (suc (suc (suc (suc zero)))))) = row (band n) 10 15 20 (omega arith) (omega arith) (omega arith)
    go (suc (suc (suc (suc (suc (suc (suc zero))))))) = row (band n) 10 15 20 (omega arith) (omega arith) (omega arith)
    go (suc (suc (suc (suc (suc (suc (suc (suc zero)))))))) = row (band n) 1 2 3 (omega arith) (omega arith) (omega arith)
    go (suc (suc (suc (suc (suc (suc (suc (suc (suc i))))))))) = none (band n)
      where
        none : (j : ℕ) → get_or [] j 0 ≤ 60
        none zero = omega arith
        none (suc j) = omega arith

-- what a counter weighs
pub weighed : (i n w : ℕ) → n < 65536 → w ≡ weight i n → (n * w ≡ n * weight i n) × (n * w ≤ 3932160)
weighed i n w h e =
    let k : n * w ≤ 65536 * w = mul-le-mul_right w (omega arith) in
    (ap (λ x. n * x) e, omega (arith, k, e, weight_most i n))

-- one counter more
pub score-more : (xs : List ℕ) (k s p t : ℕ) → s ≡ score_to xs k → p ≡ get_or xs k 0 * weight k (get_or xs k 0) → t ≡ s + p → t ≡ score_to xs (k + 1)
unfolding score_to
score-more xs k s p t h d f = rw (add-one k) (f ∙ ap₂ (λ (x y : ℕ). x + y) h d)

-- all nine
pub score_is : (c : Counters) (xs : List ℕ) (s k : ℕ) → xs ≡ counter_list c → s ≡ score_to xs k → k ≡ 9 → s ≡ score c
unfolding score score_from counter_list score_to
score_is c xs s k d h e = rw (d, e) at h ∙ grouped _ _ _ _ _ _ _ _ _
  where
    grouped : (a b c d e f g h i : ℕ) → 0 + a + b + c + d + e + f + g + h + i ≡ a + (b + (c + (d + (e + (f + (g + (h + (i + 0))))))))
    grouped a b c d e f g h i = omega arith
