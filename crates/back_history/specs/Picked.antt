-- The places of a history by rising position: how many they are, and whether one has the height 0.
use Rattle.std.specs.Prelude.{ℕ, ◌+◌, ◌<◌, ◌≡◌, List, Bool, true, false, ◌&&◌, ◌||◌, ltb, length, get_or}
use Rattle.std.proofs.Math.Path.{sym}
use Rattle.std.proofs.Common.{◌∙◌, ap}
use Rattle.std.proofs.Math.Bool.{not}
use borrow.Author.Tests.{not-false}
use Rattle.laws.specs.Test.{both, and_no, and_yes, not_yes}
use Rattle.laws.specs.Scan.{any, any_intro, any-more, those}
use Rattle.models.specs.Cert.{height_of}
use Rattle.models.specs.Tables.{place_at}
use Rattle.dag_round_points.specs.Model.{count_yes, count_no}
use Rattle.back_history.specs.Model.{is_uncommitted}

-- the place at position low + k is marked and not committed
unfoldable pub uncommitted_at : List ℕ → List ℕ → List Bool → ℕ → ℕ → Bool
uncommitted_at cs os m low k = is_uncommitted cs m (place_at os (low + k))

-- place q is marked and not committed, and its height is not above 0
abbrev pub is_low : List ℕ → List Bool → ℕ → Bool
is_low cs m q = is_uncommitted cs m q && not (ltb 0 (height_of (get_or cs q 0)))

-- the place at position low + k is so
unfoldable pub uncertified_at : List ℕ → List ℕ → List Bool → ℕ → ℕ → Bool
uncertified_at cs os m low k = is_low cs m (place_at os (low + k))

-- ---- the steps of the code

module _ (cs os : List ℕ) (m : List Bool) (low : ℕ) where
  -- a position that is in the history and has the height 0
  pub flat_hit : (n k q : ℕ) (w h : Bool) → k < n → q ≡ place_at os (low + k) → w ≡ is_uncommitted cs m q → w ≡ true → h ≡ ltb 0 (height_of (get_or cs q 0)) → not h ≡ true → true ≡ any n (uncertified_at cs os m low)
  unfolding uncertified_at
  flat_hit n k q w h l e a t b f = sym (any_intro n (uncertified_at cs os m low) k l (ap (is_low cs m) (sym e) ∙ both (sym a ∙ t) (ap not (sym b) ∙ f)))

  -- one that is not, and none before it
  none_more : (k : ℕ) → false ≡ any k (uncertified_at cs os m low) → uncertified_at cs os m low k ≡ false → false ≡ any (k + 1) (uncertified_at cs os m low)
  none_more k e f = any-more (uncertified_at cs os m low) k false false e (ap (λ x. x || false) (sym f))

  -- it is not in the history
  pub flat_off : (k q : ℕ) (w : Bool) → false ≡ any k (uncertified_at cs os m low) → q ≡ place_at os (low + k) → w ≡ is_uncommitted cs m q → w ≡ false → false ≡ any (k + 1) (uncertified_at cs os m low)
  unfolding uncertified_at
  flat_off k q w e d a t = none_more k e (ap (is_low cs m) (sym d) ∙ and_no _ (sym a ∙ t))

  -- it has a height
  pub flat_heights_are : (k q : ℕ) (w h : Bool) → false ≡ any k (uncertified_at cs os m low) → q ≡ place_at os (low + k) → w ≡ is_uncommitted cs m q → w ≡ true → h ≡ ltb 0 (height_of (get_or cs q 0)) → not h ≡ false → false ≡ any (k + 1) (uncertified_at cs os m low)
  unfolding uncertified_at
  flat_heights_are k q w h e d a t b f = none_more k e (ap (is_low cs m) (sym d) ∙ and_yes (sym a ∙ t) (not_yes (sym b ∙ not-false h f)))

-- all positions
pub any_end : (f : ℕ → Bool) (b : Bool) (k n : ℕ) → b ≡ any k f → k ≡ n → b ≡ any n f
any_end f b k n e d = rw d at e

module _ (cs os : List ℕ) (m : List Bool) (low : ℕ) where
  -- one position more, which is in the history
  pub count_hit : (c k q r : ℕ) (w : Bool) → c ≡ length (those k (uncommitted_at cs os m low)) → q ≡ place_at os (low + k) → w ≡ is_uncommitted cs m q → w ≡ true → r ≡ c + 1 → r ≡ length (those (k + 1) (uncommitted_at cs os m low))
  unfolding uncommitted_at
  count_hit c k q r w e d a t f = f ∙ count_yes (uncommitted_at cs os m low) k c e (ap (is_uncommitted cs m) (sym d) ∙ (sym a ∙ t))

  -- one that is not
  pub count_miss : (c k q r : ℕ) (w : Bool) → c ≡ length (those k (uncommitted_at cs os m low)) → q ≡ place_at os (low + k) → w ≡ is_uncommitted cs m q → w ≡ false → r ≡ c → r ≡ length (those (k + 1) (uncommitted_at cs os m low))
  unfolding uncommitted_at
  count_miss c k q r w e d a t f = f ∙ count_no (uncommitted_at cs os m low) k c e (ap (is_uncommitted cs m) (sym d) ∙ (sym a ∙ t))

-- all positions
pub count_end : (f : ℕ → Bool) (c k n : ℕ) → c ≡ length (those k f) → k ≡ n → c ≡ length (those n f)
count_end f c k n e d = rw d at e
