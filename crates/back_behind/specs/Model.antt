-- The link behind each point, over the tables (02: N7): what one pass over the positions of a history notes.
use Prim.Native.Nat.{ℕ, zero, suc, ◌+◌, ◌*◌, ◌-◌, ◌≤◌, ◌<◌}
use Rattle.std.specs.Prelude.{◌≡◌, List, Bool, true, false, ◌||◌, cond, eqb, leb, length, get_or, set, replicate}
use Rattle.std.proofs.Math.Path.{refl, sym}
use Rattle.std.proofs.Common.{subst, ◌∙◌, arith, add-one, length-set, get_or-set_same, get_or-set_other}
use Rattle.std.proofs.lemmas.List.{length-replicate, get_or-replicate, set-get_or}
use Rattle.std.proofs.Math.ListN.{get_or-eq_default}
use borrow.Author.Tests.{eq-eqb, ne_eqb, le-leb, lt-leb}
use Rattle.laws.specs.Test.{by_test, same_or, le_or}
use Rattle.models.specs.Tables.{round_at, place_at, target_at}
use Rattle.models.specs.Live.{reach}
use Rattle.back_history.specs.Down.{down_from, down_next}
use Rattle.back_history.specs.Model.{is_uncommitted}

-- place q is told rather than what is noted: nothing, or a place of its round
unfoldable pub goes_before : List ℕ → ℕ → ℕ → Bool
goes_before ks x q = eqb x 0 || eqb (round_at ks (x - 1)) (round_at ks q)

-- so it is noted, as its place plus 1
unfoldable pub noted : List ℕ → ℕ → ℕ → ℕ
noted ks x q = cond (goes_before ks x q) (q + 1) x

-- for the place of a target word
unfoldable pub note_at : List ℕ → List ℕ → ℕ → ℕ → List ℕ
note_at ks by q t = cond (eqb t 0) by (cond (leb t 4096) (set by (t - 1) (noted ks (get_or by (t - 1) 0) q)) by)

-- for the targets of its first k links
unfoldable pub note_links : List ℕ → List ℕ → List ℕ → ℕ → ℕ → List ℕ
note_links ks ls by q zero = by
note_links ks ls by q (suc k) = note_at ks (note_links ks ls by q k) q (target_at ls q k)

-- for those of its live links, if it is of the history
unfoldable pub note_from : ℕ → List ℕ → List ℕ → List ℕ → List Bool → List ℕ → ℕ → List ℕ
note_from b ks ls cs m by q = cond (is_uncommitted cs m q) (note_links ks ls by q (reach b ks q)) by

-- the k positions below `high`, downwards
unfoldable pub note_down : ℕ → List ℕ → List ℕ → List ℕ → List ℕ → List Bool → List ℕ → ℕ → ℕ → List ℕ
note_down b ks ls cs os m by high = down_from (λ g p. note_from b ks ls cs m g (place_at os p)) by high

-- nothing is noted at first
abbrev pub nothing : List ℕ
nothing = replicate 4096 0

-- the positions from `low` to `high`
unfoldable pub sources : ℕ → List ℕ → List ℕ → List ℕ → List ℕ → List Bool → ℕ → ℕ → List ℕ
sources b ks ls cs os m low high = note_down b ks ls cs os m nothing high (high - low)

-- what is noted are places of the keys, which have n words
abbrev pub Sourced : ℕ → List ℕ → Type 0
Sourced n by = (x : ℕ) → get_or by x 0 * 8 ≤ n

-- ---- one place

-- nothing is noted
pub goes_none : (ks : List ℕ) (x q : ℕ) → x ≡ 0 → true ≡ goes_before ks x q
unfolding goes_before
goes_none ks x q e = rw (eq-eqb x 0 e) refl

-- the place p is
pub goes_some : (ks : List ℕ) (x q p : ℕ) → (x ≡ 0 → ⊥) → p ≡ x - 1 → eqb (round_at ks p) (round_at ks q) ≡ goes_before ks x q
unfolding goes_before
goes_some ks x q p n e = rw (ne_eqb x 0 n, e) refl

-- the three cases
pub noted-none : (ks : List ℕ) (x q : ℕ) → x ≡ 0 → noted ks x q ≡ q + 1
unfolding noted
noted-none ks x q e = rw (← goes_none ks x q e) refl

module _ (ks : List ℕ) (x q p : ℕ) (is : x ≡ p + 1) where
  goes-place : eqb (round_at ks p) (round_at ks q) ≡ goes_before ks x q
  goes-place = goes_some ks x q p (λ e. omega (arith, e, is)) (omega (arith, is))

  pub noted-same : round_at ks p ≡ round_at ks q → noted ks x q ≡ q + 1
  unfolding noted
  noted-same e = rw (← goes-place, eq-eqb (round_at ks p) (round_at ks q) e) refl

  pub noted_other : (round_at ks p ≡ round_at ks q → ⊥) → noted ks x q ≡ x
  unfolding noted
  noted_other n = rw (← goes-place, ne_eqb (round_at ks p) (round_at ks q) n) refl

-- twice is once
pub noted-twice : (ks : List ℕ) (x q : ℕ) → noted ks (noted ks x q) q ≡ noted ks x q
unfolding noted
noted-twice ks x q = by_test (goes_before ks x q) (λ t. rw t (noted-same ks (q + 1) q q refl refl)) (λ f. rw f (rw f refl))

-- ---- the steps of the code

-- no link; no place
pub note_none : (ks by : List ℕ) (q t : ℕ) → t ≡ 0 → by ≡ note_at ks by q t
unfolding note_at
note_none ks by q t e = rw (eq-eqb t 0 e) refl

pub note_out : (ks by : List ℕ) (q t : ℕ) → (t ≡ 0 → ⊥) → 4096 < t → by ≡ note_at ks by q t
unfolding note_at
note_out ks by q t e l = rw (ne_eqb t 0 e, lt-leb t 4096 l) refl

module _ (ks by : List ℕ) (q t : ℕ) (e : t ≡ 0 → ⊥) (l : t ≤ 4096) where
  -- its place
  pub note_place : set by (t - 1) (noted ks (get_or by (t - 1) 0) q) ≡ note_at ks by q t
  unfolding note_at
  note_place = rw (ne_eqb t 0 e, le-leb t 4096 l) refl

  -- q is noted there, or what was noted stays
  pub note_yes : (g : Bool) → g ≡ goes_before ks (get_or by (t - 1) 0) q → g ≡ true → set by (t - 1) (q + 1) ≡ note_at ks by q t
  unfolding noted
  note_yes g is y = rw (sym is ∙ y) at note_place

  pub note_no : (g : Bool) → g ≡ goes_before ks (get_or by (t - 1) 0) q → g ≡ false → by ≡ note_at ks by q t
  unfolding noted
  note_no g is n = sym (set-get_or by (t - 1) 0) ∙ (rw (sym is ∙ n) at note_place)

-- one link more
pub note_more : (ks ls by g r : List ℕ) (q k t : ℕ) → g ≡ note_links ks ls by q k → t ≡ target_at ls q k → r ≡ note_at ks g q t → r ≡ note_links ks ls by q (k + 1)
unfolding note_links
note_more ks ls by g r q k t e x f = rw (add-one k) (f ∙ rw (e, x) refl)

-- all links
pub note_end : (ks ls by g : List ℕ) (q k n : ℕ) → g ≡ note_links ks ls by q k → k ≤ n → n ≤ k → g ≡ note_links ks ls by q n
note_end ks ls by g q k n e l h = let d : k ≡ n = omega arith in rw d at e

module _ (b : ℕ) (ks ls cs os : List ℕ) (m : List Bool) (by : List ℕ) (high : ℕ) where
  -- position p - 1 is next
  note_next : (p : ℕ) → 0 < p → p ≤ high → note_down b ks ls cs os m by high (high - (p - 1)) ≡ note_from b ks ls cs m (note_down b ks ls cs os m by high (high - p)) (place_at os (p - 1))
  unfolding note_down
  note_next = down_next (λ g p. note_from b ks ls cs m g (place_at os p)) by high

  -- its place is of the history
  pub down_hit : (g r : List ℕ) (p q n : ℕ) (w : Bool) → g ≡ note_down b ks ls cs os m by high (high - p) → 0 < p → p ≤ high → q ≡ place_at os (p - 1) → w ≡ is_uncommitted cs m q → w ≡ true
      → n ≡ reach b ks q → r ≡ note_links ks ls g q n → r ≡ note_down b ks ls cs os m by high (high - (p - 1))
  unfolding note_from
  down_hit g r p q n w e z l f h t d u = rw (note_next p z l, ← e, ← f, ← h, t, ← d) u

  -- its place is not
  pub down_miss : (g : List ℕ) (p q : ℕ) (w : Bool) → g ≡ note_down b ks ls cs os m by high (high - p) → 0 < p → p ≤ high → q ≡ place_at os (p - 1) → w ≡ is_uncommitted cs m q → w ≡ false
      → g ≡ note_down b ks ls cs os m by high (high - (p - 1))
  unfolding note_from
  down_miss g p q w e z l f h t = rw (note_next p z l, ← e, ← f, ← h, t) refl

-- from nothing
pub sources_by : (b : ℕ) (ks ls cs os : List ℕ) (m : List Bool) (low high : ℕ) (r : List ℕ) → r ≡ note_down b ks ls cs os m nothing high (high - low) → r ≡ sources b ks ls cs os m low high
unfolding sources
sources_by b ks ls cs os m low high r e = e

-- ---- what is noted are places

pub none_at : (x : ℕ) → get_or nothing x 0 ≡ 0
none_at x = le_or 4096 x (λ l. get_or-eq_default nothing 0 (subst (λ n. n ≤ x) (sym (length-replicate {A = ℕ} 4096 0)) l)) (λ l. get_or-replicate 4096 x 0 0 l)

pub none_sourced : (n : ℕ) → Sourced n nothing
none_sourced n x = omega (arith, none_at x)

module _ (n : ℕ) (ks : List ℕ) (q : ℕ) (fits : q * 8 + 8 ≤ n) where
  noted-fits : (y : ℕ) → y * 8 ≤ n → noted ks y q * 8 ≤ n
  unfolding noted
  noted-fits y h = by_test (goes_before ks y q) (λ t. rw t (omega (arith, fits))) (λ f. rw f h)

  one_sourced : (by : List ℕ) (i : ℕ) → Sourced n by → Sourced n (set by i (noted ks (get_or by i 0) q))
  one_sourced by i h x =
      same_or x i
      (λ e. le_or (length by) i
      (λ l. let out : length (set by i (noted ks (get_or by i 0) q)) ≤ x = omega (arith, length-set by i (noted ks (get_or by i 0) q), l, e) in
      let none : get_or (set by i (noted ks (get_or by i 0) q)) x 0 ≡ 0 = get_or-eq_default (set by i (noted ks (get_or by i 0) q)) 0 out in omega (arith, none))
      (λ l. subst (λ z. get_or (set by i (noted ks (get_or by i 0) q)) z 0 * 8 ≤ n) (sym e) (rw (get_or-set_same by i (noted ks (get_or by i 0) q) 0 l) (noted-fits (get_or by i 0) (h i)))))
      (λ d. rw (get_or-set_other by i x (noted ks (get_or by i 0) q) 0 d) (h x))

  note_sourced : (by : List ℕ) (t : ℕ) → Sourced n by → Sourced n (note_at ks by q t)
  unfolding note_at
  note_sourced by t h = by_test (eqb t 0) (λ y. rw y h) (λ f. rw f (by_test (leb t 4096) (λ y. rw y (one_sourced by (t - 1) h)) (λ z. rw z h)))

  pub links_sourced : (ls by : List ℕ) (k : ℕ) → Sourced n by → Sourced n (note_links ks ls by q k)
  unfolding note_links
  links_sourced ls by zero h = h
  links_sourced ls by (suc k) h = note_sourced (note_links ks ls by q k) (target_at ls q k) (links_sourced ls by k h)
