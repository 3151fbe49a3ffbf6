-- The rule of the inspector's memory: at most 128 entries, their authors peers, their digests rising strictly.
use Rattle.std.specs.Prelude.{ℕ, zero, suc, ◌+◌, ◌<◌, ◌≤◌, ◌≡◌, Bool, true, false, not, ◌&&◌, ◌||◌, leb, ltb, get_or, take}
use Rattle.std.proofs.Math.Path.{refl, sym}
use Rattle.std.proofs.Common.{◌∙◌, ⊎_elim, arith, add-one}
use mathlib.Core.List.Memᴰ
use mathlib.Core.List.{List, [], ◌∷◌, Memᴰ}
use borrow.Author.Tests.{le-leb, lt-leb, ltb-true, not-true, not-false}
use Rattle.laws.specs.Test.{clash, both, and_r, and_no, and_yes, or_l, or_cases}
use Rattle.laws.specs.Scan.{every, every_elim, every_intro, every_not}
use Rattle.laws.specs.Lists.{Pairs, map_pairs}
use Rattle.spec.specs.Inspection.{Lower, Ascending}
use Rattle.models.specs.Digest.{digest_at}
use Rattle.commit_state.specs.declared.state.Entry.{Entry}
use Rattle.commit_state.specs.declared.state.Memory.{Memory}
use Rattle.commit_state.specs.State.{no_memory}
use Rattle.commit_state.specs.View.{entry_of, memory_of}

-- the digest of a is below that of b
unfoldable pub is_lower : Entry → Entry → Bool
is_lower a b = ltb (digest_at a.digest.0 0) (digest_at b.digest.0 0)

-- what is read beyond the last entry
abbrev pub beyond : Entry
beyond = record { author = 0; digest = record { 0 = [] }; has_previous = 0; previous = record { 0 = [] }; unreferenced_by = 0 }

-- entry i of n: its author is a peer, its digest below the next one's
unfoldable pub entry_holds : List Entry → ℕ → ℕ → Bool
entry_holds es n i = leb (get_or es i beyond).author 31 && (leb n (i + 1) || is_lower (get_or es i beyond) (get_or es (i + 1) beyond))

unfoldable pub memory_holds : Memory → Bool
memory_holds m = leb m.count 128 && every m.count (entry_holds m.entries m.count)

-- one law for each way out of `memory_holds`
module _ (m : Memory) where
  pub memory_long : 128 < m.count → false ≡ memory_holds m
  unfolding memory_holds
  memory_long l = sym (and_no _ (lt-leb m.count 128 l))

  pub memory_no : m.count ≤ 128 → (i : ℕ) → i < m.count → entry_holds m.entries m.count i ≡ false → false ≡ memory_holds m
  unfolding memory_holds
  memory_no k i l h = sym (and_yes (le-leb m.count 128 k) (every_not m.count (entry_holds m.entries m.count) i l h))

  pub memory_yes : m.count ≤ 128 → ((j : ℕ) → j < m.count → entry_holds m.entries m.count j ≡ true) → true ≡ memory_holds m
  unfolding memory_holds
  memory_yes l h = sym (both (le-leb m.count 128 l) (every_intro m.count (entry_holds m.entries m.count) h))

-- and for each of an entry
module _ (es : List Entry) (n i : ℕ) where
  pub entry-author : 31 < (get_or es i beyond).author → entry_holds es n i ≡ false
  unfolding entry_holds
  entry-author l = and_no _ (lt-leb (get_or es i beyond).author 31 l)

  module _ (a : (get_or es i beyond).author ≤ 31) where
    pub entry_last : n ≤ i + 1 → entry_holds es n i ≡ true
    unfolding entry_holds
    entry_last l = both (le-leb (get_or es i beyond).author 31 a) (or_l _ _ (le-leb n (i + 1) l))

    module _ (l : i + 1 < n) where
      next : entry_holds es n i ≡ is_lower (get_or es i beyond) (get_or es (i + 1) beyond)
      unfolding entry_holds
      next = rw (le-leb (get_or es i beyond).author 31 a, lt-leb n (i + 1) l) refl

      pub entry_next : (b : Bool) → b ≡ is_lower (get_or es i beyond) (get_or es (i + 1) beyond) → not b ≡ false → entry_holds es n i ≡ true
      entry_next b e h = next ∙ (sym e ∙ not-false b h)

      pub entry-falls : (b : Bool) → b ≡ is_lower (get_or es i beyond) (get_or es (i + 1) beyond) → not b ≡ true → entry_holds es n i ≡ false
      entry-falls b e h = next ∙ (sym e ∙ not-true b h)

-- ---- what it says

-- no entries
pub none_hold : memory_holds no_memory ≡ true
unfolding memory_holds every
none_hold = both (le-leb 0 128 (omega arith)) refl

abbrev digest_in : Entry → ℕ
digest_in e = digest_at e.digest.0 0

-- of the first n entries each digest is below the next
abbrev Steps : List Entry → ℕ → Type 0
Steps es n = (i : ℕ) → suc i < n → digest_in (get_or es i beyond) < digest_in (get_or es (suc i) beyond)

-- what is below the first is below all of them
below_all : (v : ℕ) (es : List Entry) (n : ℕ) → (0 < n → v < digest_in (get_or es 0 beyond)) → Steps es n → (y : Entry) → Memᴰ y (take n es) → v < digest_in y
below_all v es zero f h y m = absurd (Memᴰ.not-nil m)
below_all v [] (suc n) f h y m = absurd (Memᴰ.not-nil m)
below_all v (x ∷ xs) (suc n) f h y m =
    ⊎_elim
    (λ e. rw e (f (omega arith)))
    (λ k. below_all v xs n (λ l. let a : v < digest_in x = f (omega arith) in let b : digest_in x < digest_in (get_or xs 0 beyond) = h 0 (omega arith) in omega arith) (λ i l. h (suc i) (omega arith)) y k)
    (Memᴰ.cases_cons m)

-- so each is below every later one
steps_rise : (es : List Entry) (n : ℕ) → Steps es n → Pairs (λ (x y : Entry). digest_in x < digest_in y) (take n es)
steps_rise es zero h = tt
steps_rise [] (suc n) h = tt
steps_rise (x ∷ xs) (suc n) h = (below_all (digest_in x) xs n (λ l. h 0 (omega arith)) (λ i l. h (suc i) (omega arith)), steps_rise xs n (λ i l. h (suc i) (omega arith)))

-- digests rise strictly, as 01 reads the memory
pub memory_rises : (m : Memory) → memory_holds m ≡ true → Ascending (memory_of m).entries
unfolding memory_holds entry_holds is_lower memory_of entry_of
memory_rises m h =
    map_pairs (λ (x y : Entry). digest_in x < digest_in y) Lower entry_of (λ x y l. l) (take m.count m.entries)
    (steps_rise m.entries m.count (λ i l.
    let e = and_r (leb (get_or m.entries i beyond).author 31) _ (every_elim m.count (entry_holds m.entries m.count) (and_r (leb m.count 128) _ h) i (omega arith)) in
    ltb-true _ _ (rw (add-one i) at (⊎_elim (λ t. absurd (clash t (lt-leb m.count (i + 1) (omega arith)))) (λ t. t) (or_cases (leb m.count (i + 1)) _ e)))))
