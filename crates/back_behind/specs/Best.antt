-- What is noted for a place is the first of those that link to it, in the order that 02 names (N7: "the one in the highest round, then with
-- the lowest digest"): the highest round, and in it the lowest position.
use Prim.Native.Nat.{ℕ, zero, suc, ◌+◌, ◌-◌, ◌≤◌, ◌<◌}
use Rattle.std.specs.Prelude.{◌≡◌, List, ◌⊎◌, Bool, true, false, ◌&&◌, ◌||◌, cond, eqb, length, get_or}
use Rattle.std.proofs.Math.Path.{refl, ap}
use Rattle.std.proofs.Common.{sym, subst, ◌∙◌, inr, ⊎_elim, arith, length-set, get_or-set_same, get_or-set_other, eq-eqb, ne_eqb}
use Rattle.std.proofs.Math.Logic.{inl}
use Rattle.std.proofs.lemmas.List.{length-replicate}
use Rattle.laws.specs.Test.{by_test, clash, same_or, le_or}
use Rattle.laws.specs.Scan.{any}
use Rattle.models.specs.Tables.{round_at, place_at, target_at}
use Rattle.models.specs.Live.{reach}
use Rattle.dag_round_keys.specs.Sorted.{Sorted, rounds_rise}
use Rattle.back_history.specs.Down.{down_from}
use Rattle.back_history.specs.Model.{is_uncommitted}
use Rattle.back_behind.specs.Model.{noted, noted-none, noted-same, noted_other, noted-twice, note_at, note_none, note_out, note_place, note_links, note_from, note_down, nothing, sources, none_at}

-- ---- what stands at one place

-- one of the first k links of q leads to x
unfoldable pub leads_to : List ℕ → ℕ → ℕ → ℕ → Bool
leads_to ls q x k = any k (λ j. eqb (target_at ls q j) (suc x))

-- after a target word
at_word : (ks by : List ℕ) (q t x : ℕ) → length by ≡ 4096 → x < 4096 → get_or (note_at ks by q t) x 0 ≡ cond (eqb t (suc x)) (noted ks (get_or by x 0) q) (get_or by x 0)
at_word ks by q t x z l =
    same_or t (suc x)
    (λ e. rw (eq-eqb t (suc x) e) (let i : t - 1 ≡ x = omega (arith, e) in
    rw (sym (note_place ks by q t (λ n. omega (arith, n, e)) (omega (arith, e, l))), i) (get_or-set_same by x (noted ks (get_or by x 0) q) 0 (omega (arith, z, l)))))
    (λ n. rw (ne_eqb t (suc x) n) (same_or t 0
    (λ e. rw (sym (note_none ks by q t e)) refl)
    (λ d. le_or t 4096
    (λ h. rw (sym (note_place ks by q t d h)) (get_or-set_other by (t - 1) x (noted ks (get_or by (t - 1) 0) q) 0 (λ e. n (omega (arith, e, d)))))
    (λ h. rw (sym (note_out ks by q t d h)) refl))))

-- as many places
word-length : (ks by : List ℕ) (q t : ℕ) → length (note_at ks by q t) ≡ length by
word-length ks by q t =
    same_or t 0
    (λ e. ap length (sym (note_none ks by q t e)))
    (λ d. le_or t 4096 (λ h. ap length (sym (note_place ks by q t d h)) ∙ length-set by (t - 1) _) (λ h. ap length (sym (note_out ks by q t d h))))

links-length : (ks ls by : List ℕ) (q k : ℕ) → length (note_links ks ls by q k) ≡ length by
unfolding note_links
links-length ks ls by q zero = refl
links-length ks ls by q (suc k) = word-length ks (note_links ks ls by q k) q (target_at ls q k) ∙ links-length ks ls by q k

-- after the links of a place: it is noted once
at_links : (ks ls by : List ℕ) (q k x : ℕ) → length by ≡ 4096 → x < 4096 → get_or (note_links ks ls by q k) x 0 ≡ cond (leads_to ls q x k) (noted ks (get_or by x 0) q) (get_or by x 0)
unfolding note_links leads_to any
at_links ks ls by q zero x z l = refl
at_links ks ls by q (suc k) x z l =
    at_word ks (note_links ks ls by q k) q (target_at ls q k) x (links-length ks ls by q k ∙ z) l
    ∙ rw (at_links ks ls by q k x z l) (join (eqb (target_at ls q k) (suc x)) (leads_to ls q x k))
  where
    join : (c d : Bool) → cond c (noted ks (cond d (noted ks (get_or by x 0) q) (get_or by x 0)) q) (cond d (noted ks (get_or by x 0) q) (get_or by x 0)) ≡ cond (c || d) (noted ks (get_or by x 0) q) (get_or by x 0)
    join true true = noted-twice ks (get_or by x 0) q
    join true false = refl
    join false d = refl

-- ---- what stands there after the pass

-- the place at position p is of the history and links to x
unfoldable pub hits : ℕ → List ℕ → List ℕ → List ℕ → List ℕ → List Bool → ℕ → ℕ → Bool
hits b ks ls cs os m x p = is_uncommitted cs m (place_at os p) && leads_to ls (place_at os p) x (reach b ks (place_at os p))

-- so it is noted
abbrev turn : List ℕ → List ℕ → (ℕ → Bool) → ℕ → ℕ → ℕ
turn ks os hit y p = cond (hit p) (noted ks y (place_at os p)) y

module _ (b : ℕ) (ks ls cs os : List ℕ) (m : List Bool) (high : ℕ) where
  from_length : (by : List ℕ) (q : ℕ) → length (note_from b ks ls cs m by q) ≡ length by
  unfolding note_from
  from_length by q = by_test (is_uncommitted cs m q) (λ t. rw t (links-length ks ls by q (reach b ks q))) (λ f. rw f refl)

  down_length : (by : List ℕ) (k : ℕ) → length (note_down b ks ls cs os m by high k) ≡ length by
  unfolding note_down down_from
  down_length by zero = refl
  down_length by (suc k) = from_length (note_down b ks ls cs os m by high k) (place_at os (high - suc k)) ∙ down_length by k

  at_from : (by : List ℕ) (p x : ℕ) → length by ≡ 4096 → x < 4096 → get_or (note_from b ks ls cs m by (place_at os p)) x 0 ≡ turn ks os (hits b ks ls cs os m x) (get_or by x 0) p
  unfolding note_from hits
  at_from by p x z l =
      by_test (is_uncommitted cs m (place_at os p)) (λ t. rw t (at_links ks ls by (place_at os p) (reach b ks (place_at os p)) x z l)) (λ f. rw f refl)

  at_down : (by : List ℕ) (k x : ℕ) → length by ≡ 4096 → x < 4096 → get_or (note_down b ks ls cs os m by high k) x 0 ≡ down_from (turn ks os (hits b ks ls cs os m x)) (get_or by x 0) high k
  unfolding note_down down_from
  at_down by zero x z l = refl
  at_down by (suc k) x z l =
      at_from (note_down b ks ls cs os m by high k) (high - suc k) x (down_length by k ∙ z) l
      ∙ ap (λ y. turn ks os (hits b ks ls cs os m x) y (high - suc k)) (at_down by k x z l)

-- ---- it is the first of them

-- of the k positions below `high`, y says the one that hits in the highest round and, of that round, at the lowest position; 0 if none does
abbrev pub Best : List ℕ → List ℕ → (ℕ → Bool) → ℕ → ℕ → ℕ → Type 0
Best ks os hit high k y =
    ((y ≡ 0) × ((i : ℕ) → high - k ≤ i → i < high → hit i ≡ false))
    ⊎ ((j : ℕ) × (high - k ≤ j) × (j < high) × (hit j ≡ true) × (y ≡ place_at os j + 1)
    × ((i : ℕ) → high - k ≤ i → i < high → hit i ≡ true → (round_at ks (place_at os i) < round_at ks (place_at os j)) ⊎ ((round_at ks (place_at os i) ≡ round_at ks (place_at os j)) × (j ≤ i))))

module _ (ks os : List ℕ) (hit : ℕ → Bool) (n high : ℕ) (so : Sorted ks os n) (le : high ≤ n) where
  -- the next position doesn't hit
  best_miss : (k y : ℕ) → suc k ≤ high → hit (high - suc k) ≡ false → Best ks os hit high k y → Best ks os hit high (suc k) y
  best_miss k y l f (inl (z, none)) = inl (z, λ i a c. same_or i (high - suc k) (λ e. rw e f) (λ d. none i (omega arith) c))
  best_miss k y l f (inr (j, a, c, h, e, first)) =
      inr (j, omega arith, c, h, e, λ i u w g. same_or i (high - suc k) (λ d. absurd (clash (subst (λ x. hit x ≡ true) d g) f)) (λ d. first i (omega arith) w g))

  -- it hits
  best_hit : (k y : ℕ) → suc k ≤ high → hit (high - suc k) ≡ true → Best ks os hit high k y → Best ks os hit high (suc k) (noted ks y (place_at os (high - suc k)))
  best_hit k y l t (inl (z, none)) =
      inr (
        high - suc k,
        omega arith,
        omega arith,
        t,
        noted-none ks y (place_at os (high - suc k)) z,
        λ i u w g. same_or i (high - suc k) (λ d. inr (ap (λ x. round_at ks (place_at os x)) d, omega (arith, d))) (λ d. absurd (clash g (none i (omega arith) w))),
      )
  best_hit k y l t (inr (j, a, c, h, e, first)) =
      same_or (round_at ks (place_at os j)) (round_at ks (place_at os (high - suc k)))
      (λ same. inr (
        high - suc k,
        omega arith,
        omega arith,
        t,
        noted-same ks y (place_at os (high - suc k)) (place_at os j) e same,
        λ i u w g. same_or i (high - suc k) (λ d. inr (ap (λ x. round_at ks (place_at os x)) d, omega (arith, d)))
            (λ d. ⊎_elim (λ less. inl (omega (arith, less, same))) (λ (eq, at). inr (eq ∙ same, omega arith)) (first i (omega arith) w g)),
      ))
      (λ other. inr (
        j,
        omega arith,
        c,
        h,
        noted_other ks y (place_at os (high - suc k)) (place_at os j) e other ∙ e,
        λ i u w g. same_or i (high - suc k)
            (λ d. inl (subst (λ x. round_at ks (place_at os x) < round_at ks (place_at os j)) (sym d) (let up = rounds_rise ks os n (high - suc k) j so (omega arith) (omega (arith, c, le)) in omega (arith, up, other))))
            (λ d. first i (omega arith) w g),
      ))

  best : (k : ℕ) → k ≤ high → Best ks os hit high k (down_from (turn ks os hit) 0 high k)
  unfolding down_from
  best zero l = inl (refl, λ i a c. absurd (omega arith))
  best (suc k) l =
      by_test (hit (high - suc k))
      (λ t. rw t (best_hit k (down_from (turn ks os hit) 0 high k) l t (best k (omega arith))))
      (λ f. rw f (best_miss k (down_from (turn ks os hit) 0 high k) l f (best k (omega arith))))

-- so it is of what is noted for x
pub sources-best : (b : ℕ) (ks ls cs os : List ℕ) (m : List Bool) (low high n x : ℕ) → Sorted ks os n → high ≤ n → x < 4096
    → Best ks os (hits b ks ls cs os m x) high (high - low) (get_or (sources b ks ls cs os m low high) x 0)
unfolding sources
sources-best b ks ls cs os m low high n x so le l =
    subst (Best ks os (hits b ks ls cs os m x) high (high - low))
    (sym (at_down b ks ls cs os m high nothing (high - low) x (length-replicate {A = ℕ} 4096 0) l ∙ ap (λ y. down_from (turn ks os (hits b ks ls cs os m x)) y high (high - low)) (none_at x)))
    (best ks os (hits b ks ls cs os m x) n high so le (high - low) (omega arith))
