-- The certificate words once a history is marked (01: commit/mod.rs).
use Prim.Native.Nat.{ℕ, zero, suc, ◌+◌, ◌%◌, ◌≤◌, ◌<◌}
use Rattle.std.specs.Prelude.{◌≡◌, Bool, true, ◌&&◌, cond, leb, length, set}
use Rattle.std.proofs.Math.Path.{refl, sym, ap}
use Rattle.std.proofs.Common.{◌∙◌, arith, add-one, length-set, get_or-set_same, get_or-set_other}
use mathlib.Core.List.{List}
use Rattle.std.proofs.Math.Bool.{false, not}
use Rattle.std.proofs.Math.Dec.{ltb}
use Rattle.std.proofs.Math.ListN.{get_or}
use borrow.Author.Tests.{le-leb, lt-leb, lt-ltb, le-ltb}
use Rattle.laws.specs.Test.{by_test, same_or, le_or, both, and_no}
use Rattle.models.specs.Cert.{flags_of, height_of, marked, committed_word}
use Rattle.models.specs.Tables.{place_at, Inside}
use Rattle.cert_certify.specs.Word.{word_small}
use Rattle.back_history.specs.Model.{is_uncommitted}
use Rattle.output_record.specs.Picked.{and_fails, is_picked}

-- the word of place q set, if q passes
unfoldable pub mark_one : Bool → List ℕ → ℕ → List ℕ
mark_one b cs q = cond b (set cs q (committed_word (get_or cs q 0))) cs

-- the points of the history at positions from low to n - 1
unfoldable pub marks_all : List ℕ → List Bool → ℕ → List ℕ → ℕ → List ℕ
marks_all os m low cs zero = cs
marks_all os m low cs (suc i) = let ds = marks_all os m low cs i in mark_one (leb low i && is_uncommitted ds m (place_at os i)) ds (place_at os i)

-- the words of the first n positions have 16 bits
abbrev pub Small : List ℕ → List ℕ → ℕ → Type 0
Small os cs n = (i : ℕ) → i < n → get_or cs (place_at os i) 0 < 65536

-- as many words
pub marks-length : (os : List ℕ) (m : List Bool) (low : ℕ) (cs : List ℕ) (n : ℕ) → length (marks_all os m low cs n) ≡ length cs
unfolding marks_all mark_one
marks-length os m low cs zero = refl
marks-length os m low cs (suc i) =
    let h = marks-length os m low cs i in
    by_test (leb low i && is_uncommitted (marks_all os m low cs i) m (place_at os i)) (λ t. rw t (length-set (marks_all os m low cs i) (place_at os i) _ ∙ h)) (λ e. rw e h)

-- the word has 16 bits
committed_small : (c : ℕ) → committed_word c < 65536
unfolding committed_word height_of
committed_small c = word_small (marked (flags_of c)) (c % 4096) (omega arith)

-- none below low
marks-below : (os : List ℕ) (m : List Bool) (low : ℕ) (cs : List ℕ) (n : ℕ) → n ≤ low → marks_all os m low cs n ≡ cs
unfolding marks_all mark_one
marks-below os m low cs zero l = refl
marks-below os m low cs (suc i) l = rw (and_no {a = leb low i} (is_uncommitted (marks_all os m low cs i) m (place_at os i)) (lt-leb low i (omega arith))) (marks-below os m low cs i (omega arith))

-- at first
pub marks-none : (os : List ℕ) (m : List Bool) (low : ℕ) (cs : List ℕ) → cs ≡ marks_all os m low cs low
marks-none os m low cs = sym (marks-below os m low cs low (omega arith))

-- one position more, at the loop's counter
module _ (os : List ℕ) (m : List Bool) (low : ℕ) (cs ds ds' : List ℕ) (i q : ℕ) (h : ds ≡ marks_all os m low cs i) (is : q ≡ place_at os i) where
  pub marks-yes : low ≤ i → is_uncommitted ds m q ≡ true → (w : ℕ) → w ≡ committed_word (get_or ds q 0) → ds' ≡ set ds q w → ds' ≡ marks_all os m low cs (i + 1)
  unfolding marks_all mark_one
  marks-yes l t w e d = rw (add-one i, marks_all, ← h, ← is, both (le-leb low i l) t) (d ∙ ap (set ds q) e)

  pub marks_no : is_uncommitted ds m q ≡ false → ds' ≡ ds → ds' ≡ marks_all os m low cs (i + 1)
  unfolding marks_all mark_one
  marks_no e d = rw (add-one i, marks_all, ← h, ← is, and_fails (leb low i) (is_uncommitted ds m q) e) d

-- the words keep their 16 bits
pub marks_small : (os : List ℕ) (m : List Bool) (low : ℕ) (cs : List ℕ) (n q : ℕ) → q < length cs → get_or cs q 0 < 65536 → get_or (marks_all os m low cs n) q 0 < 65536
unfolding marks_all mark_one
marks_small os m low cs zero q b l = l
marks_small os m low cs (suc i) q b l =
    let ds : List ℕ = marks_all os m low cs i in
    let p : ℕ = place_at os i in
    let h : get_or ds q 0 < 65536 = marks_small os m low cs i q b l in
    by_test (leb low i && is_uncommitted ds m p)
    (λ t. rw t (same_or q p
    (λ e. rw (e, get_or-set_same ds p (committed_word (get_or ds p 0)) 0 (omega (arith, marks-length os m low cs i))) (committed_small (get_or ds p 0)))
    (λ d. rw (get_or-set_other ds p q (committed_word (get_or ds p 0)) 0 d) h)))
    (λ e. rw e h)

-- the word of the place at position j, where no place stands at two positions
module _ (os : List ℕ) (m : List Bool) (low : ℕ) (cs : List ℕ) (n : ℕ) (inside : Inside os n (length cs)) (apart : (i j : ℕ) → i < n → j < n → place_at os i ≡ place_at os j → i ≡ j) where
  -- what it is after the positions below k
  abbrev At : ℕ → ℕ → Type 0
  At k j = get_or (marks_all os m low cs k) (place_at os j) 0 ≡ cond (is_picked os m cs low k j) (committed_word (get_or cs (place_at os j) 0)) (get_or cs (place_at os j) 0)

  -- at a position that comes later
  later : (k j : ℕ) → k ≤ j → At k j → get_or (marks_all os m low cs k) (place_at os j) 0 ≡ get_or cs (place_at os j) 0
  unfolding is_picked
  later k j l h = h ∙ rw (and_no {a = ltb j k} (leb low j && is_uncommitted cs m (place_at os j)) (le-ltb j k l)) refl

  -- the test reads the word as it was
  same-is_uncommitted : (ds : List ℕ) (q : ℕ) → get_or ds q 0 ≡ get_or cs q 0 → is_uncommitted ds m q ≡ is_uncommitted cs m q
  unfolding is_uncommitted
  same-is_uncommitted ds q e = ap (λ (c : ℕ). get_or m q false && not (flags_of c).committed) e

  -- set once its position is passed, if its place is of the history
  pub marks_at_lem : (k j : ℕ) → k ≤ n → j < n → At k j
  unfolding marks_all mark_one is_picked
  marks_at_lem zero j l b = rw (and_no {a = ltb j 0} (leb low j && is_uncommitted cs m (place_at os j)) (le-ltb j 0 (omega arith))) refl
  marks_at_lem (suc i) j l b =
      let ds : List ℕ = marks_all os m low cs i in
      let p : ℕ = place_at os i in
      let h : At i j = marks_at_lem i j (omega arith) b in
      let e : get_or ds p 0 ≡ get_or cs p 0 = later i i (omega arith) (marks_at_lem i i (omega arith) (omega arith)) in
      same_or j i
      (λ d. rw (d, same-is_uncommitted ds p e, lt-ltb i (suc i) (omega arith))
      (by_test (leb low i && is_uncommitted cs m p)
      (λ t. rw t (get_or-set_same ds p (committed_word (get_or ds p 0)) 0 (omega (arith, inside i (omega arith), marks-length os m low cs i)) ∙ ap committed_word e))
      (λ f. rw f e)))
      (λ d. rw (next j i d)
      (by_test (leb low i && is_uncommitted ds m p)
      (λ t. rw t (get_or-set_other ds p (place_at os j) (committed_word (get_or ds p 0)) 0 (λ c. d (apart j i b (omega arith) c)) ∙ h))
      (λ f. rw f h)))
    where
      next : (j i : ℕ) → (j ≡ i → ⊥) → ltb j (suc i) ≡ ltb j i
      next j i d = le_or i j (λ l. le-ltb j (suc i) (omega arith) ∙ sym (le-ltb j i l)) (λ l. lt-ltb j (suc i) (omega arith) ∙ sym (lt-ltb j i l))
