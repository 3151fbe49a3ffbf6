-- The marks of the used places.
use Rattle.std.specs.Prelude.{ℕ, zero, suc, ◌+◌, ◌≤◌, ◌≡◌, refl, Bool, true, List, set, length}
use Rattle.std.proofs.Common.{◌∙◌, arith, add-one, length-set}
use Rattle.models.specs.Tables.{place_at}

-- the marks ms, and those of the first i places of the order
unfoldable pub marked : List Bool → List ℕ → ℕ → List Bool
marked ms os zero = ms
marked ms os (suc i) = set (marked ms os i) (place_at os i) true

-- ---- the code's steps

pub marked_more : (ms gs rs : List Bool) (os : List ℕ) (i p : ℕ) → gs ≡ marked ms os i → p ≡ place_at os i → rs ≡ set gs p true → rs ≡ marked ms os (i + 1)
unfolding marked
marked_more ms gs rs os i p g e r = rw add-one (r ∙ rw (g, e) refl)

pub marked_end : (ms gs : List Bool) (os : List ℕ) (i n : ℕ) → gs ≡ marked ms os i → i ≤ n → n ≤ i → gs ≡ marked ms os n
marked_end ms gs os i n g l m = let e : i ≡ n = omega arith in rw e at g

pub marked-length : (ms : List Bool) (os : List ℕ) (i : ℕ) → length (marked ms os i) ≡ length ms
unfolding marked
marked-length ms os zero = refl
marked-length ms os (suc i) = length-set (marked ms os i) (place_at os i) true ∙ marked-length ms os i
