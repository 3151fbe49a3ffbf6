-- The words of the lent tables.
-- keys, 8 words a place: round, author, digest (four, the most significant first), status, marks.
-- links, 328 words a place: evidence, round, author and digest (four) of the top proof, the payload, then 64 target words (0 for no link,
-- else 1 + the place that it leads to), then four words of digest for each link. Link k is under the peer k % 32 and leads 1 + k / 32
-- rounds down.
-- certs, 1 word a place: the certificate word.
-- order, 1 word a place: its first n cells hold the used places.
use Rattle.std.specs.Prelude.{ℕ, ◌+◌, ◌*◌, ◌/◌, ◌<◌, ◌≡◌, List, Bool, true, ◌↔◌, length, get_or, eqb}
use Rattle.std.proofs.Common.{arith, eq-eqb, eqb-true}
use Rattle.laws.specs.Scan.{any, any_elim, any_intro}
use Rattle.models.specs.Digest.{digest_at}

abbrev pub round_at : List ℕ → ℕ → ℕ
round_at ks q = get_or ks (q * 8 + 0) 0

abbrev pub author_at : List ℕ → ℕ → ℕ
author_at ks q = get_or ks (q * 8 + 1) 0

abbrev pub status_at : List ℕ → ℕ → ℕ
status_at ks q = get_or ks (q * 8 + 6) 0

abbrev pub marks_at : List ℕ → ℕ → ℕ
marks_at ks q = get_or ks (q * 8 + 7) 0

abbrev pub digest_of : List ℕ → ℕ → ℕ
digest_of ks q = digest_at ks (q * 8 + 2)

-- the place at position i of the order
abbrev pub place_at : List ℕ → ℕ → ℕ
place_at os i = get_or os i 0

-- the first n cells of the order hold places below m
abbrev pub Inside : List ℕ → ℕ → ℕ → Type 0
Inside os n m = (i : ℕ) → i < n → place_at os i < m

-- places below the number of places are below that of the keys
pub inside_keys : (ks os : List ℕ) (n : ℕ) → length ks ≡ length os * 8 → Inside os n (length os) → Inside os n (length ks / 8)
inside_keys ks os n e h i l = let k = h i l in omega arith

-- the place q is used
abbrev pub Used : List ℕ → ℕ → ℕ → Type 0
Used os n q = (i : ℕ) × (i < n) × (place_at os i ≡ q)

-- the test of it
unfoldable pub is_used : List ℕ → ℕ → ℕ → Bool
is_used os n q = any n (λ i. eqb (place_at os i) q)

-- it passes exactly then
pub used_is : (os : List ℕ) (n q : ℕ) → (is_used os n q ≡ true) ↔ Used os n q
unfolding is_used
used_is os n q = (
  (λ h. let (i, l, e) = any_elim n (λ i. eqb (place_at os i) q) h in (i, l, eqb-true _ _ e)),
  λ (i, l, e). any_intro n (λ i. eqb (place_at os i) q) i l (eq-eqb _ _ e),
)

abbrev pub evidence_at : List ℕ → ℕ → ℕ
evidence_at ls q = get_or ls (q * 328 + 0) 0

-- the round and the author of the top proof
abbrev pub proof_round_at : List ℕ → ℕ → ℕ
proof_round_at ls q = get_or ls (q * 328 + 1) 0

abbrev pub proof_author_at : List ℕ → ℕ → ℕ
proof_author_at ls q = get_or ls (q * 328 + 2) 0

-- 02, N2: "every resolved point holds" both numbers: `payload_len` in the upper 32 bits, `payload_bytes` in the lower
abbrev pub payload_at : List ℕ → ℕ → ℕ
payload_at ls q = get_or ls (q * 328 + 7) 0

-- the target word of link k of place q
abbrev pub target_at : List ℕ → ℕ → ℕ → ℕ
target_at ls q k = get_or ls (q * 328 + 8 + k) 0

-- how many rounds down link k leads
abbrev pub dist : ℕ → ℕ
dist k = 1 + k / 32
