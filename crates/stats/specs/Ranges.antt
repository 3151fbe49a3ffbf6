-- From which round on the peers are counted (01: "Remove takes `stats_since` as a round or none.").
use Rattle.std.specs.Prelude.{ℕ, ◌≡◌, refl, false, leb}
use Rattle.std.proofs.Math.Option.{Option, none, some}
use Rattle.spec.specs.Inspect.{since}
use Rattle.models.specs.declared.parts.Round.{Round}
use Rattle.std.specs.Prelude as rust
use Rattle.std.specs.Prelude.{None, Some}

-- `stats_since` as the definitions have it
unfoldable pub since_of : (rust.Option Round) → Option ℕ
since_of None = none
since_of (Some r) = some r.0

-- ---- the steps of the code

-- none suppresses all
pub since_none : (x : (rust.Option Round)) (r : ℕ) → x ≡ None → false ≡ since (since_of x) r
unfolding since since_of
since_none x r e = rw e refl

-- a round those before it
pub since_from : (x : (rust.Option Round)) (first : Round) (r : ℕ) → x ≡ Some first → leb first.0 r ≡ since (since_of x) r
unfolding since since_of
since_from x first r e = rw e refl
