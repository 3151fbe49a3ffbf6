-- The positions of the places of one round: the first n places stand by rising round.
use Rattle.std.specs.Prelude.{ℕ, ◌+◌, ◌<◌, ◌≤◌, ◌≡◌, List, ◌∷◌, [], leb}
use Rattle.std.proofs.Common.{ap, ◌∙◌, arith, leb-true, leb-false}
use Rattle.laws.specs.Test.{le_or}
use Rattle.laws.specs.Scan.{first, first-le, first_hit, first_miss}
use Rattle.models.specs.Tables.{round_at, place_at}
use Rattle.models.specs.Digest.{words}
use Rattle.dag_round_keys.specs.Key.{key}
use Rattle.dag_round_keys.specs.Sorted.{Sorted, place_of, round-place, rounds_rise}
use Rattle.dag_round_order.specs.declared.span.Span.{Span}

-- how many of the first n places are of rounds below b: the first that isn't, or n
unfoldable pub below : List ℕ → List ℕ → ℕ → ℕ → ℕ
below ks os n b = first (λ p. leb b (round_at ks (place_at os p))) n

-- the least key of round b, as an id of eight words
abbrev pub least_id : ℕ → List ℕ
least_id b = b ∷ 0 ∷ 0 ∷ 0 ∷ 0 ∷ 0 ∷ 0 ∷ 0 ∷ []

-- where it belongs, the places of lower rounds end
pub cut_is : (ks os : List ℕ) (n b r : ℕ) → r ≡ place_of ks os n (key (least_id b) 0) → r ≡ below ks os n b
unfolding below key words
cut_is ks os n b r e = e ∙ round-place ks os n b

-- it is at most n
pub below-le : (ks os : List ℕ) (n b : ℕ) → below ks os n b ≤ n
unfolding below
below-le ks os n b = first-le _ n

-- the places before it are of rounds below b
pub below_low : (ks os : List ℕ) (n b i : ℕ) → i < below ks os n b → round_at ks (place_at os i) < b
unfolding below
below_low ks os n b i l = leb-false _ _ (first_miss _ n i l)

-- those from it on are not
pub below_high : (ks os : List ℕ) (n b i : ℕ) → Sorted ks os n → below ks os n b ≤ i → i < n → b ≤ round_at ks (place_at os i)
unfolding below
below_high ks os n b i s l m =
    let k : ℕ = below ks os n b in
    let j : k < n = omega arith in
    let h : b ≤ round_at ks (place_at os k) = leb-true _ _ (first_hit (λ p. leb b (round_at ks (place_at os p))) n j) in
    omega (arith, rounds_rise ks os n k i s l m)

-- the positions of round r, of the first n
unfoldable pub span_of : List ℕ → List ℕ → ℕ → ℕ → Span
span_of ks os n r = record { low = below ks os n r; high = below ks os n (r + 1) }

-- its first position is not above the next round's
pub span-rises : (ks os : List ℕ) (n r : ℕ) → Sorted ks os n → below ks os n r ≤ below ks os n (r + 1)
span-rises ks os n r s =
    let low : ℕ = below ks os n r in
    let high : ℕ = below ks os n (r + 1) in
    le_or low high (λ h. h) (λ h. absurd (omega (arith, below_low ks os n r high h, below_high ks os n (r + 1) high s (omega arith) (omega (arith, h, below-le ks os n r)))))

-- what stands at one of its positions is of the round
pub span-round : (ks os : List ℕ) (n r i : ℕ) → Sorted ks os n → below ks os n r ≤ i → i < below ks os n (r + 1) → round_at ks (place_at os i) ≡ r
span-round ks os n r i s l h = omega (arith, below_high ks os n r i s l (omega (arith, h, below-le ks os n (r + 1))), below_low ks os n (r + 1) i h)

-- the two ends
pub span_is : (ks os : List ℕ) (n r next low high : ℕ) → next ≡ r + 1 → low ≡ below ks os n r → high ≡ below ks os n next → record { low = low; high = high } ≡ span_of ks os n r
unfolding span_of
span_is ks os n r next low high h e d = λ i. record { low = e i; high = (d ∙ ap (below ks os n) h) i }
