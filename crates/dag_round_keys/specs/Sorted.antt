-- Places in the order of their keys. A position is the number of a cell of the order; what stands in the cell is a place.
use Rattle.std.specs.Prelude.{ℕ, ◌+◌, ◌-◌, ◌<◌, ◌≤◌, ◌≡◌, refl, List, Bool, false, not, ◌&&◌, ◌↔◌, get_or, eqb, ltb, leb}
use Rattle.std.proofs.Math.Path.{sym}
use Rattle.std.proofs.Common.{ap, ◌∙◌, arith, ltb-true, le-ltb, lt-ltb, le-leb, eq-eqb, ne_eqb}
use Rattle.std.proofs.Math.Bool.{true}
use Rattle.std.proofs.lemmas.Bool.{not-true, not-false, lt-leb}
use Rattle.laws.specs.Test.{by_test, clash, same_or, le_or, not_yes, not_no, both, and_no, and_yes}
use Rattle.laws.specs.Scan.{every, every_intro, every_elim, every_not, first, first_is, first-le, first_hit, first_miss, first_ext}
use Rattle.dag_round_keys.specs.Key.{key, before, same, before_irrefl, before_trans, before-total, same_refl, same-eq, round_key, before-round, before-round_key}
use Rattle.models.specs.Tables.{round_at, author_at, Inside}

-- the test of it
unfoldable pub is_inside : List ℕ → ℕ → ℕ → Bool
is_inside o n places = every n (λ p. ltb (get_or o p 0) places)

-- it passes exactly then
pub inside_is : (o : List ℕ) (n places : ℕ) → (is_inside o n places ≡ true) ↔ Inside o n places
unfolding is_inside
inside_is o n places = (
  (λ h p l. ltb-true (get_or o p 0) places (every_elim n (λ q. ltb (get_or o q 0) places) h p l)),
  λ s. every_intro n _ (λ p l. lt-ltb (get_or o p 0) places (s p l)),
)

-- one cell that holds none is enough
pub inside_not : (o : List ℕ) (n places p : ℕ) → p < n → places ≤ get_or o p 0 → is_inside o n places ≡ false
unfolding is_inside
inside_not o n places p l h = every_not n _ p l (le-ltb (get_or o p 0) places h)

-- the key at position p
abbrev pub key_at : List ℕ → List ℕ → ℕ → List ℕ
key_at ks o p = key ks (get_or o p 0)

-- the keys rise strictly over the first n positions
abbrev pub Sorted : List ℕ → List ℕ → ℕ → Type 0
Sorted ks o n = (a b : ℕ) → a < b → b < n → before (key_at ks o a) (key_at ks o b) ≡ true

-- the test of it
unfoldable pub is_sorted : List ℕ → List ℕ → ℕ → Bool
is_sorted ks o n = every n (λ b. every b (λ a. before (key_at ks o a) (key_at ks o b)))

-- it passes exactly then
pub sorted_is : (ks o : List ℕ) (n : ℕ) → (is_sorted ks o n ≡ true) ↔ Sorted ks o n
unfolding is_sorted
sorted_is ks o n = (
  (λ h a b l m. every_elim b (λ x. before (key_at ks o x) (key_at ks o b)) (every_elim n (λ y. every y (λ x. before (key_at ks o x) (key_at ks o y))) h b m) a l),
  λ s. every_intro n _ (λ b m. every_intro b _ (λ a l. s a b l m)),
)

-- two positions that do not rise are enough
pub sorted_not : (ks o : List ℕ) (n a b : ℕ) → a < b → b < n → before (key_at ks o a) (key_at ks o b) ≡ false → is_sorted ks o n ≡ false
unfolding is_sorted
sorted_not ks o n a b l m h = every_not n _ b m (every_not b _ a l h)

-- one position more: its neighbour is enough
pub sorted_more : (ks o : List ℕ) (k : ℕ) → 0 < k → Sorted ks o k → before (key_at ks o (k - 1)) (key_at ks o k) ≡ true → Sorted ks o (k + 1)
sorted_more ks o k z s h a b l m =
    same_or b k
    (λ e. rw e (same_or a (k - 1) (λ d. rw d h) (λ d. before_trans _ (key_at ks o (k - 1)) _ (s a (k - 1) (omega arith) (omega arith)) h)))
    (λ e. s a b l (omega arith))

-- no key stands at two positions
pub sorted-key : (ks o : List ℕ) (n a b : ℕ) → Sorted ks o n → a < n → b < n → key_at ks o a ≡ key_at ks o b → a ≡ b
sorted-key ks o n a b s la lb e =
    le_or a b (λ l. same_or a b (λ d. d) (λ d. absurd (no a b (omega arith) lb e))) (λ l. absurd (no b a l la (sym e)))
  where
    no : (a b : ℕ) → a < b → b < n → key_at ks o a ≡ key_at ks o b → ⊥
    no a b l m e = clash (s a b l m) (rw e (before_irrefl (key_at ks o b)))

-- no place stands at two positions
pub sorted_apart : (ks o : List ℕ) (n a b : ℕ) → Sorted ks o n → a < n → b < n → get_or o a 0 ≡ get_or o b 0 → a ≡ b
sorted_apart ks o n a b s la lb e = sorted-key ks o n a b s la lb (ap (key ks) e)

-- where the key k belongs: the first position whose key does not come before k, or n
unfoldable pub place_of : List ℕ → List ℕ → ℕ → List ℕ → ℕ
place_of ks o n k = first (λ p. not (before (key_at ks o p) k)) n

-- the position of the key k, or n
unfoldable pub standing : List ℕ → List ℕ → ℕ → List ℕ → ℕ
standing ks o n k = first (λ p. same (key_at ks o p) k) n

-- k stands where it is found
pub standing_at : (ks o : List ℕ) (n : ℕ) (k : List ℕ) → standing ks o n k < n → key_at ks o (standing ks o n k) ≡ k
unfolding standing
standing_at ks o n k l = same-eq _ k (first_hit _ n l)

-- where it is not found, it stands nowhere
pub standing-none : (ks o : List ℕ) (n : ℕ) (k : List ℕ) → standing ks o n k ≡ n → (p : ℕ) → p < n → key_at ks o p ≡ k → ⊥
unfolding standing
standing-none ks o n k h p l e = clash (rw e (same_refl k)) (first_miss (λ q. same (key_at ks o q) k) n p (omega arith))

-- what a binary search ends with
pub place_is : (ks o : List ℕ) (n : ℕ) (k : List ℕ) (p : ℕ) → p ≤ n → ((j : ℕ) → j < p → before (key_at ks o j) k ≡ true) → (p < n → before (key_at ks o p) k ≡ false) → place_of ks o n k ≡ p
unfolding place_of
place_is ks o n k p l low high = first_is _ n p l (λ j m. not_yes (low j m)) (λ m. not_no (high m))

-- it is at most n
pub place-le : (ks o : List ℕ) (n : ℕ) (k : List ℕ) → place_of ks o n k ≤ n
unfolding place_of
place-le ks o n k = first-le _ n

-- up to a position that comes before k, all do
pub down_from_lem : (ks o : List ℕ) (n : ℕ) (k : List ℕ) (m j : ℕ) → Sorted ks o n → m < n → before (key_at ks o m) k ≡ true → j < m + 1 → before (key_at ks o j) k ≡ true
down_from_lem ks o n k m j s l h b = same_or j m (λ e. rw e h) (λ e. before_trans _ (key_at ks o m) k (s j m (omega arith) l) h)

-- from a position that does not come before k, none does
pub up_from : (ks o : List ℕ) (n : ℕ) (k : List ℕ) (m j : ℕ) → Sorted ks o n → m ≤ j → j < n → before (key_at ks o m) k ≡ false → before (key_at ks o j) k ≡ false
up_from ks o n k m j s l b h =
    by_test (before (key_at ks o j) k)
    (λ t. absurd (clash (down_from_lem ks o n k j m s b t (omega arith)) h))
    (λ e. e)

-- below it all come before k
pub place_low : (ks o : List ℕ) (n : ℕ) (k : List ℕ) (j : ℕ) → j < place_of ks o n k → before (key_at ks o j) k ≡ true
unfolding place_of
place_low ks o n k j l = not-false _ (first_miss _ n j l)

-- it does not come before k
place_at_lem : (ks o : List ℕ) (n : ℕ) (k : List ℕ) → place_of ks o n k < n → before (key_at ks o (place_of ks o n k)) k ≡ false
unfolding place_of
place_at_lem ks o n k l = not-true _ (first_hit _ n l)

-- from it on none comes before k
pub place_high : (ks o : List ℕ) (n : ℕ) (k : List ℕ) (j : ℕ) → Sorted ks o n → place_of ks o n k ≤ j → j < n → before (key_at ks o j) k ≡ false
place_high ks o n k j s l m = up_from ks o n k (place_of ks o n k) j s l m (place_at_lem ks o n k (omega arith))

-- other keys are not equal
apart : (a b : List ℕ) → (a ≡ b → ⊥) → same a b ≡ false
apart a b n = by_test (same a b) (λ t. absurd (n (same-eq a b t))) (λ e. e)

-- one that comes before k is another
less_apart : (a b : List ℕ) → before a b ≡ true → same a b ≡ false
less_apart a b h = apart a b (λ e. clash h (rw e (before_irrefl b)))

-- one that k comes before is another
more_apart : (a b : List ℕ) → before b a ≡ true → same a b ≡ false
more_apart a b h = apart a b (λ e. clash h (rw e (before_irrefl b)))

-- the position of a key, from the position where it belongs
module _ (ks o : List ℕ) (n : ℕ) (k : List ℕ) (p : ℕ) (place : p ≡ place_of ks o n k) where
  -- below it all come before k
  low : (j : ℕ) → j < p → before (key_at ks o j) k ≡ true
  low j l = place_low ks o n k j (rw place at l)

  -- it does not come before k
  high : p < n → before (key_at ks o p) k ≡ false
  high l = rw place (place_at_lem ks o n k (rw place at l))

  -- nor k before it: it is k's
  pub standing_here : p < n → before k (key_at ks o p) ≡ false → standing ks o n k ≡ p
  unfolding standing
  standing_here l h =
      first_is _ n p (omega arith) (λ j m. less_apart _ _ (low j m))
      (λ m. rw (before-total (key_at ks o p) k (high l) h) (same_refl k))

  -- k comes before it: k stands nowhere
  pub standing_not : Sorted ks o n → p < n → before k (key_at ks o p) ≡ true → standing ks o n k ≡ n
  unfolding standing
  standing_not s l h =
      first_is _ n n (omega arith)
      (λ j m. le_or p j
      (λ a. more_apart _ _ (same_or p j (λ e. rw e at h) (λ e. before_trans k (key_at ks o p) _ h (s p j (omega arith) m))))
      (λ a. less_apart _ _ (low j a)))
      (λ m. absurd (omega arith))

  -- k belongs at the end: it stands nowhere
  pub standing_end : n ≤ p → standing ks o n k ≡ n
  unfolding standing
  standing_end l = first_is _ n n (omega arith) (λ j m. less_apart _ _ (low j (omega arith))) (λ m. absurd (omega arith))

-- rounds rise with positions
pub rounds_rise : (ks o : List ℕ) (n a b : ℕ) → Sorted ks o n → a ≤ b → b < n → round_at ks (get_or o a 0) ≤ round_at ks (get_or o b 0)
rounds_rise ks o n a b s l m = same_or a b (λ e. rw e (omega arith)) (λ e. before-round ks (get_or o a 0) (get_or o b 0) (s a b (omega arith) m))

-- a round's least key belongs at the first position of that round or a higher one
pub round-place : (ks o : List ℕ) (n r : ℕ) → place_of ks o n (round_key r) ≡ first (λ p. leb r (round_at ks (get_or o p 0))) n
unfolding place_of
round-place ks o n r = first_ext _ _ n (λ j l. ap not (before-round_key ks (get_or o j 0) r) ∙ not_less (round_at ks (get_or o j 0)) r)
  where
    not_less : (x r : ℕ) → not (ltb x r) ≡ leb r x
    not_less x r = le_or r x (λ l. rw (le-ltb x r l, le-leb r x l) refl) (λ l. rw (lt-ltb x r l, lt-leb r x l) refl)

-- the position of the point with the key k and the author w, or n
unfoldable pub point_at : List ℕ → List ℕ → ℕ → List ℕ → ℕ → ℕ
point_at ks o n k w = first (λ p. same (key_at ks o p) k && eqb (author_at ks (get_or o p 0)) w) n

module _ (ks o : List ℕ) (n : ℕ) (k : List ℕ) (w p : ℕ) (stands : p ≡ standing ks o n k) where
  -- below it stand other keys
  other : (j : ℕ) → j < p → same (key_at ks o j) k ≡ false
  unfolding standing
  other j l = first_miss _ n j (rw stands at l)

  -- k stands there
  this : p < n → same (key_at ks o p) k ≡ true
  unfolding standing
  this l = rw stands (first_hit _ n (rw stands at l))

  -- the author is w: it is the point's
  pub point-here : p < n → author_at ks (get_or o p 0) ≡ w → point_at ks o n k w ≡ p
  unfolding point_at
  point-here l e = first_is _ n p (omega arith) (λ j m. and_no _ (other j m)) (λ m. both (this l) (eq-eqb (author_at ks (get_or o p 0)) w e))

  -- the author is another: the point stands nowhere
  pub point_not : Sorted ks o n → p < n → (author_at ks (get_or o p 0) ≡ w → ⊥) → point_at ks o n k w ≡ n
  unfolding point_at
  point_not s l d =
      first_is _ n n (omega arith)
      (λ j m. by_test (same (key_at ks o j) k)
      (λ t. and_yes t (ne_eqb (author_at ks (get_or o j 0)) w (rw (one j m t) d)))
      (λ f. and_no _ f))
      (λ m. absurd (omega arith))
    where
      one : (j : ℕ) → j < n → same (key_at ks o j) k ≡ true → j ≡ p
      one j m t = sorted-key ks o n j p s m l (same-eq _ k t ∙ sym (same-eq _ k (this l)))

  -- k stands nowhere, nor does the point
  pub point_end : n ≤ p → point_at ks o n k w ≡ n
  unfolding point_at
  point_end l = first_is _ n n (omega arith) (λ j m. and_no _ (other j (omega arith))) (λ m. absurd (omega arith))
