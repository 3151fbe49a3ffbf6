-- The points of a history: the needed places that aren't committed, by rising position of the order (01: back.rs, 'History').
use Rattle.std.specs.Prelude.{ℕ, ◌≡◌, refl, List, Bool, true, false, ◌&&◌, leb, ltb}
use Rattle.models.specs.Tables.{place_at}
use Rattle.back_history.specs.Model.{is_uncommitted}

-- the second test fails
pub and_fails : (a b : Bool) → b ≡ false → (a && b) ≡ false
and_fails true b e = e
and_fails false b e = refl

-- position j is looked at, and its place is of the history
unfoldable pub is_picked : List ℕ → List Bool → List ℕ → ℕ → ℕ → ℕ → Bool
is_picked os m cs low n j = ltb j n && (leb low j && is_uncommitted cs m (place_at os j))
