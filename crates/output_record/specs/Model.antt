-- The anchor record (01: output.rs).
use Rattle.std.specs.Prelude.{ℕ, ◌+◌, ◌*◌, ◌-◌, ◌≤◌, ◌<◌, ◌≡◌, List, [], ◌∷◌, ◌++◌, map, Bool, true, false, ◌&&◌, cond, leb, ltb, length}
use Rattle.std.proofs.Math.Path.{refl, sym, ap}
use Rattle.std.proofs.Common.{◌∙◌, append-nil, length-append, lt-ltb, le-ltb}
use Rattle.std.proofs.lemmas.List.{map-append, length-map}
use Rattle.std.proofs.Math.Bool.{not}
use native.Mathlib.Omega.{arith}
use Rattle.laws.specs.Test.{and_no, and_yes, cond_yes, cond_no, both}
use Rattle.laws.specs.Lists.{joined, joined-append}
use Rattle.laws.specs.Bytes.{be, be-length, written, written-append, written_apart, and_then}
use Rattle.spec.specs.Ids.{id_bytes, prev}
use Rattle.spec.specs.Records.{id-length, ids-length}
use Rattle.commit_state.specs.declared.state.State.{State}
use Rattle.answer_bytes.specs.Bytes.{place_id}
use Rattle.output_record.specs.Sums.{sums_of}
use Rattle.output_record.specs.Links.{link_of, links_of, links-length}

-- the byte of a flag
unfoldable pub flag_of : Bool → ℕ
flag_of x = cond x 1 0

-- by its two values
pub flag-yes : (x : Bool) → x ≡ true → 1 ≡ flag_of x
unfolding flag_of
flag-yes x t = rw t refl

pub flag_no : (x : Bool) → x ≡ false → 0 ≡ flag_of x
unfolding flag_of
flag_no x e = rw e refl

-- what stands before the points' ids
unfoldable pub head_of : List ℕ → ℕ → ℕ → Bool → ℕ → ℕ → List ℕ
head_of ks a p x r n = id_bytes (place_id ks a) ++ (id_bytes (place_id ks p) ++ (be 1 (flag_of x) ++ (be 4 r ++ be 4 n)))

-- the ids of places
unfoldable pub points_of : List ℕ → List ℕ → List ℕ
points_of ks l = joined id_bytes (map (place_id ks) l)

-- "Anchor record: anchor id, proof id, executable (1 byte), previous anchor round (4; 0 for none), number of points (4), their ids." 02, N7:
-- "After each history's ids, before N2's sums, comes, for each point in the same order, the id .. and the word"
unfoldable pub record_of : List ℕ → List ℕ → ℕ → ℕ → Bool → ℕ → List ℕ → ℕ → ℕ → List ℕ
record_of ks by a p x r l len bytes = head_of ks a p x r (length l) ++ (points_of ks l ++ (links_of ks by l ++ sums_of len bytes))

-- ---- ids after ids

-- more ids
points-append : (ks xs ys : List ℕ) → points_of ks (xs ++ ys) ≡ points_of ks xs ++ points_of ks ys
unfolding points_of
points-append ks xs ys = ap (joined id_bytes) (map-append (place_id ks) xs ys) ∙ joined-append id_bytes (map (place_id ks) xs) (map (place_id ks) ys)

-- 37 bytes each
points-length : (ks l : List ℕ) → length (points_of ks l) ≡ length l * 37
unfolding points_of
points-length ks l = ids-length (map (place_id ks) l) ∙ ap (λ (n : ℕ). n * 37) (length-map l (place_id ks))

-- more links
links-append : (ks by xs ys : List ℕ) → links_of ks by (xs ++ ys) ≡ links_of ks by xs ++ links_of ks by ys
unfolding links_of
links-append ks by xs ys = joined-append (link_of ks by) xs ys

-- b is b₀ with the ids of the places l from point k on, and what is told of them; the ids begin at `ids`, the links at `told`, and `end` is the
-- number of points then
abbrev pub Wrote : List ℕ → List ℕ → ℕ → ℕ → List ℕ → ℕ → List ℕ → List ℕ → ℕ → Type 0
Wrote ks by ids told b₀ k l b end = (end ≡ k + length l) × (b ≡ written (written b₀ (ids + k * 37) (points_of ks l)) (told + k * 45) (links_of ks by l))

-- n points more have room, in a buffer of this size: the ids end before the links
abbrev pub Room : ℕ → ℕ → ℕ → ℕ → ℕ → Type 0
Room ids told k n size = (ids + (k + n) * 37 ≤ told) × (told + (k + n) * 45 ≤ size)

module _ (ks by : List ℕ) (ids told : ℕ) where
  -- none
  pub wrote_none : (b₀ : List ℕ) (k : ℕ) (l b : List ℕ) (end : ℕ) → l ≡ [] → end ≡ k → b ≡ b₀ → Wrote ks by ids told b₀ k l b end
  unfolding points_of links_of written joined
  wrote_none b₀ k l b end n e d = rw n (omega arith, d)

  -- one
  pub wrote_one : (b₀ : List ℕ) (k q : ℕ) (l b₁ b : List ℕ) (end : ℕ) → l ≡ q ∷ [] → end ≡ k + 1 → b₁ ≡ written b₀ (ids + k * 37) (id_bytes (place_id ks q)) → b ≡ written b₁ (told + k * 45) (link_of ks by q)
      → Wrote ks by ids told b₀ k l b end
  unfolding points_of links_of joined
  wrote_one b₀ k q l b₁ b end n e d f =
      rw n (
        omega arith,
        f
            ∙ (λ i. written ((d ∙ ap (written b₀ (ids + k * 37)) (sym (append-nil (id_bytes (place_id ks q))))) i) (told + k * 45) (sym (append-nil (link_of ks by q)) i)),
      )

  -- the same places
  pub wrote_is : (b₀ : List ℕ) (k : ℕ) (xs ys b : List ℕ) (end : ℕ) → xs ≡ ys → Wrote ks by ids told b₀ k xs b end → Wrote ks by ids told b₀ k ys b end
  wrote_is b₀ k xs ys b end is w = rw is at w

  -- some more: their ids end before the links
  pub wrote-more : (b₀ : List ℕ) (k : ℕ) (xs ys zs b b' : List ℕ) (end end' : ℕ) → ids + (end + length ys) * 37 ≤ told → Wrote ks by ids told b₀ k xs b end → Wrote ks by ids told b end ys b' end' → zs ≡ xs ++ ys
      → Wrote ks by ids told b₀ k zs b' end'
  wrote-more b₀ k xs ys zs b b' end end' room (e, d) (f, g) is =
      rw is (
        omega (arith, e, f, length-append xs ys),
        rw (points-append ks xs ys, links-append ks by xs ys)
            (and_then (written b₀ (ids + k * 37) (points_of ks xs ++ points_of ks ys)) (written b (ids + end * 37) (points_of ks ys)) b' (told + k * 45) (told + end * 45) (links_of ks by xs) (links_of ks by ys) (length xs * 45) (links-length ks by xs) (omega (arith, e)) before g),
      )
    where
      before : written b (ids + end * 37) (points_of ks ys) ≡ written (written b₀ (ids + k * 37) (points_of ks xs ++ points_of ks ys)) (told + k * 45) (links_of ks by xs)
      before =
          ap (λ (t : List ℕ). written t (ids + end * 37) (points_of ks ys)) d
          ∙ (written_apart (written b₀ (ids + k * 37) (points_of ks xs)) (ids + end * 37) (told + k * 45) (points_of ks ys) (links_of ks by xs) (omega (arith, room, points-length ks ys))
          ∙ ap (λ (t : List ℕ). written t (told + k * 45) (links_of ks by xs))
          (sym (written-append b₀ (ids + k * 37) (points_of ks xs) (points_of ks ys) (ids + end * 37) (omega (arith, e, points-length ks xs)))))

  -- all, from the first on
  pub wrote-all : (b₀ l b : List ℕ) (end : ℕ) → Wrote ks by ids told b₀ 0 l b end → b ≡ written (written b₀ ids (points_of ks l)) told (links_of ks by l)
  wrote-all b₀ l b end (e, d) = d ∙ (let i : ids + 0 * 37 ≡ ids = omega arith in let j : told + 0 * 45 ≡ told = omega arith in λ x. written (written b₀ (i x) (points_of ks l)) (j x) (links_of ks by l))

-- ---- the whole record

-- the head has 83 bytes
pub head_length : (ks : List ℕ) (a p : ℕ) (x : Bool) (r n : ℕ) → length (head_of ks a p x r n) ≡ 83
unfolding head_of
head_length ks a p x r n =
    length-append (id_bytes (place_id ks a)) _
    ∙ more (id-length _) (length-append (id_bytes (place_id ks p)) _ ∙ more (id-length _) (length-append (be 1 (flag_of x)) _ ∙ more (be-length 1 _) (length-append (be 4 r) _ ∙ more (be-length 4 _) (be-length 4 _))))
  where
    more : {m n k l : ℕ} → m ≡ k → n ≡ l → m + n ≡ k + l
    more e d = rw (e, d) refl

-- the points after the head, their links after the points, the sums after the links
module _ (ks by : List ℕ) (a p : ℕ) (x : Bool) (r n : ℕ) (l : List ℕ) (len bytes : ℕ) where
  pub record_then : (b b₁ b₂ b₃ : List ℕ) (at e end : ℕ) → n ≡ length l → e ≡ at + 83 → b₁ ≡ written b at (head_of ks a p x r n) → b₂ ≡ written (written b₁ e (points_of ks l)) (e + n * 37) (links_of ks by l)
      → (end ≡ e + n * 37 + n * 45 + 16) × (b₃ ≡ written b₂ (e + n * 37 + n * 45) (sums_of len bytes)) → (end ≡ at + 99 + n * 82) × (b₃ ≡ written b at (record_of ks by a p x r l len bytes))
  unfolding record_of
  record_then b b₁ b₂ b₃ at e end c d h w (i, y) = (
    omega arith,
    and_then b b₁ b₃ at e (head_of ks a p x r (length l)) _ 83 (head_length ks a p x r (length l)) d (rw c at h)
        (and_then b₁ (written b₁ e (points_of ks l)) b₃ e (e + n * 37) (points_of ks l) (links_of ks by l ++ sums_of len bytes) (n * 37) (points-length ks l ∙ ap (λ (k : ℕ). k * 37) (sym c)) refl refl
        (and_then (written b₁ e (points_of ks l)) b₂ b₃ (e + n * 37) (e + n * 37 + n * 45) (links_of ks by l) (sums_of len bytes) (n * 45) (links-length ks by l ∙ ap (λ (k : ℕ). k * 45) (sym c)) refl w y)),
  )

-- ---- executable, the previous anchor

-- the anchor's round is executable
unfoldable pub executes : State → ℕ → Bool
executes s r = leb s.first_executable.0 r

-- the first executable anchor after a gap
unfoldable pub is_first_of : State → ℕ → Bool
is_first_of s r = ltb 1 s.emit_first_after_gap && executes s r

-- the previous anchor's round
unfoldable pub previous_of : State → ℕ → ℕ → ℕ
previous_of s r p = cond (ltb s.genesis.0 (prev p) && not (is_first_of s r)) (prev p) 0

-- one law for each way out
module _ (s : State) (r : ℕ) where
  pub first_no : s.emit_first_after_gap ≤ 1 → false ≡ is_first_of s r
  unfolding is_first_of
  first_no l = sym (and_no _ (le-ltb 1 s.emit_first_after_gap l))

  pub first-yes : 1 < s.emit_first_after_gap → (b : Bool) → b ≡ executes s r → b ≡ is_first_of s r
  unfolding is_first_of
  first-yes l b e = e ∙ sym (and_yes (lt-ltb 1 s.emit_first_after_gap l) refl)

  module _ (p k : ℕ) (is : k ≡ p - 1) where
    pub previous-genesis : k ≤ s.genesis.0 → 0 ≡ previous_of s r p
    unfolding previous_of
    previous-genesis l = sym (cond_no _ _ _ (and_no _ (le-ltb s.genesis.0 (p - 1) (omega arith))) refl)

    pub previous-first : s.genesis.0 < k → (b : Bool) → b ≡ is_first_of s r → b ≡ true → 0 ≡ previous_of s r p
    unfolding previous_of
    previous-first l b e t = sym (cond_no _ _ _ (and_yes (lt-ltb s.genesis.0 (p - 1) (omega arith)) (ap not (sym e ∙ t))) refl)

    pub previous_is : s.genesis.0 < k → (b : Bool) → b ≡ is_first_of s r → b ≡ false → k ≡ previous_of s r p
    unfolding previous_of
    previous_is l b e t = is ∙ sym (cond_yes _ _ _ (both (lt-ltb s.genesis.0 (p - 1) (omega arith)) (ap not (sym e ∙ t))) refl)
