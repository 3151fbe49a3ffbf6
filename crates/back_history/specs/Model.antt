-- What the code gives: the limit of a history, and the marks that the sweep over the positions leaves.
use Rattle.std.specs.Prelude.{ℕ, zero, suc, ◌+◌, ◌-◌, ◌≤◌, ◌<◌, max, ◌≡◌, List, Bool, true, false, not, ◌&&◌, cond, eqb, leb, ltb, length, get_or, set, replicate}
use Rattle.std.proofs.Math.Path.{refl}
use Rattle.std.proofs.Common.{◌∙◌, arith, add-one, length-set, eq-eqb, ne_eqb, le-leb}
use Rattle.std.proofs.lemmas.Bool.{lt-leb}
use Rattle.laws.specs.Test.{by_test}
use Rattle.models.specs.Cert.{flags_of}
use Rattle.models.specs.Tables.{place_at, target_at, Inside}
use Rattle.models.specs.Live.{reach}
use Rattle.back_history.specs.Down.{down_from, down_next}

-- 01, back.rs: "limit = the larger of genesis + 1 and anchor − H"
unfoldable pub limit_of : ℕ → ℕ → ℕ → ℕ
limit_of genesis rounds anchor = max (suc genesis) (anchor - rounds)

-- 17: the limit is at or above the full-history bottom, and below the bottom
unfoldable pub missing : ℕ → ℕ → ℕ → Bool
missing full limit bottom = leb full limit && ltb limit bottom

-- the place of a target word is marked
unfoldable pub put : List Bool → ℕ → List Bool
put m t = cond (eqb t 0) m (cond (leb t 4096) (set m (t - 1) true) m)

-- the targets of the first k links of place q are marked
unfoldable pub marked : List ℕ → List Bool → ℕ → ℕ → List Bool
marked ls m q zero = m
marked ls m q (suc k) = put (marked ls m q k) (target_at ls q k)

-- the committed bit of place q
abbrev pub is_done : List ℕ → ℕ → Bool
is_done cs q = (flags_of (get_or cs q 0)).committed

-- place q is marked and not committed
unfoldable pub is_uncommitted : List ℕ → List Bool → ℕ → Bool
is_uncommitted cs m q = get_or m q false && not (is_done cs q)

-- place q hands on its live links, if it is marked and not committed
unfoldable pub hand_on : ℕ → List ℕ → List ℕ → List ℕ → List Bool → ℕ → List Bool
hand_on b ks ls cs m q = cond (is_uncommitted cs m q) (marked ls m q (reach b ks q)) m

-- the k positions below `high`, downwards
unfoldable pub swept : ℕ → List ℕ → List ℕ → List ℕ → List ℕ → List Bool → ℕ → ℕ → List Bool
swept b ks ls cs os m high = down_from (λ g p. hand_on b ks ls cs g (place_at os p)) m high

-- only the anchor is marked
unfoldable pub alone : ℕ → List Bool
alone a = set (replicate 4096 false) a true

-- from the positions from `low` to `high`, for the anchor a
unfoldable pub marks : ℕ → List ℕ → List ℕ → List ℕ → List ℕ → ℕ → ℕ → ℕ → List Bool
marks b ks ls cs os low high a = swept b ks ls cs os (alone a) high (high - low)

-- what the order must be for a scan of these positions
abbrev pub Range : List ℕ → List ℕ → ℕ → ℕ → Type 0
Range cs os low high = (low ≤ high) × (high ≤ length os) × (length os ≤ 4096) × (length cs ≡ length os) × Inside os high (length os)

-- ---- the steps of the code

-- the limit is below the full-history bottom
pub missing_not : (full limit bottom : ℕ) → limit < full → false ≡ missing full limit bottom
unfolding missing
missing_not full limit bottom l = rw (lt-leb full limit l) refl

-- it is not
pub missing_by : (full limit bottom : ℕ) → full ≤ limit → ltb limit bottom ≡ missing full limit bottom
unfolding missing
missing_by full limit bottom l = rw (le-leb full limit l) refl

-- no link
pub put-none : (m : List Bool) (t : ℕ) → t ≡ 0 → m ≡ put m t
unfolding put
put-none m t e = rw (eq-eqb t 0 e) refl

-- a place
pub put-place : (m : List Bool) (t : ℕ) → (t ≡ 0 → ⊥) → t ≤ 4096 → set m (t - 1) true ≡ put m t
unfolding put
put-place m t e l = rw (ne_eqb t 0 e, le-leb t 4096 l) refl

-- no place
pub put_out : (m : List Bool) (t : ℕ) → (t ≡ 0 → ⊥) → 4096 < t → m ≡ put m t
unfolding put
put_out m t e l = rw (ne_eqb t 0 e, lt-leb t 4096 l) refl

-- one link more
pub marked_more : (ls : List ℕ) (m g r : List Bool) (q k t : ℕ) → g ≡ marked ls m q k → t ≡ target_at ls q k → r ≡ put g t → r ≡ marked ls m q (k + 1)
unfolding marked
marked_more ls m g r q k t e x f = rw (add-one k) (f ∙ rw (e, x) refl)

-- all links
pub marked_end : (ls : List ℕ) (m g : List Bool) (q k n : ℕ) → g ≡ marked ls m q k → k ≤ n → n ≤ k → g ≡ marked ls m q n
marked_end ls m g q k n e l h = let d : k ≡ n = omega arith in rw d at e

-- a marked place is wanted unless it is committed
pub is_uncommitted_by : (cs : List ℕ) (m : List Bool) (q : ℕ) (d : Bool) → get_or m q false ≡ true → d ≡ is_done cs q → not d ≡ is_uncommitted cs m q
unfolding is_uncommitted
is_uncommitted_by cs m q d h e = rw (h, e) refl

-- one that is not marked is not
pub is_uncommitted_not : (cs : List ℕ) (m : List Bool) (q : ℕ) → get_or m q false ≡ false → false ≡ is_uncommitted cs m q
unfolding is_uncommitted
is_uncommitted_not cs m q h = rw h refl

module _ (b : ℕ) (ks ls cs os : List ℕ) (m : List Bool) (high : ℕ) where
  -- position p - 1 is next
  swept-next : (p : ℕ) → 0 < p → p ≤ high → swept b ks ls cs os m high (high - (p - 1)) ≡ hand_on b ks ls cs (swept b ks ls cs os m high (high - p)) (place_at os (p - 1))
  unfolding swept
  swept-next = down_next (λ g p. hand_on b ks ls cs g (place_at os p)) m high

  -- its place hands on its links
  pub swept_hit : (g r : List Bool) (p q n : ℕ) (w : Bool) → g ≡ swept b ks ls cs os m high (high - p) → 0 < p → p ≤ high → q ≡ place_at os (p - 1) → w ≡ is_uncommitted cs g q → w ≡ true
      → n ≡ reach b ks q → r ≡ marked ls g q n → r ≡ swept b ks ls cs os m high (high - (p - 1))
  unfolding hand_on
  swept_hit g r p q n w e z l f h t d u = rw (swept-next p z l, ← e, ← f, ← h, t, ← d) u

  -- its place does not
  pub swept_miss : (g : List Bool) (p q : ℕ) (w : Bool) → g ≡ swept b ks ls cs os m high (high - p) → 0 < p → p ≤ high → q ≡ place_at os (p - 1) → w ≡ is_uncommitted cs g q → w ≡ false
      → g ≡ swept b ks ls cs os m high (high - (p - 1))
  unfolding hand_on
  swept_miss g p q w e z l f h t = rw (swept-next p z l, ← e, ← f, ← h, t) refl

-- the anchor is marked, then the sweep runs
pub marks_by : (b : ℕ) (ks ls cs os : List ℕ) (low high a : ℕ) (r : List Bool) → r ≡ swept b ks ls cs os (set (replicate 4096 false) a true) high (high - low) → r ≡ marks b ks ls cs os low high a
unfolding marks alone
marks_by b ks ls cs os low high a r e = e

-- ---- lengths

-- as many places
put-length : (m : List Bool) (t : ℕ) → length (put m t) ≡ length m
unfolding put
put-length m t = by_test (eqb t 0) (λ y. rw y refl) (λ n. rw n (by_test (leb t 4096) (λ y. rw y (length-set m (t - 1) true)) (λ f. rw f refl)))

-- after links too
pub marked-length : (ls : List ℕ) (m : List Bool) (q k : ℕ) → length (marked ls m q k) ≡ length m
unfolding marked
marked-length ls m q zero = refl
marked-length ls m q (suc k) = put-length (marked ls m q k) (target_at ls q k) ∙ marked-length ls m q k

-- after positions too
pub swept-length : (b : ℕ) (ks ls cs os : List ℕ) (m : List Bool) (high k : ℕ) → length (swept b ks ls cs os m high k) ≡ length m
unfolding swept down_from hand_on
swept-length b ks ls cs os m high zero = refl
swept-length b ks ls cs os m high (suc k) =
    let g : List Bool = swept b ks ls cs os m high k in
    let q : ℕ = place_at os (high - suc k) in
    by_test (is_uncommitted cs g q) (λ t. rw t (marked-length ls g q (reach b ks q))) (λ f. rw f refl)
    ∙ swept-length b ks ls cs os m high k
