-- Theorems on the definitions of specs/HeightEquations.
use Rattle.std.specs.Prelude.{ℕ, ◌≡◌}
use Rattle.spec.specs.Store.{Store, round_at}
use Rattle.spec.specs.Paths.{LinkedTo, Top, height}
use Rattle.spec.specs.Heights.{Local, height_unique}
use Rattle.spec.proofs.Heights.{local→paths, paths→local}
use Rattle.spec.specs.Links.{down}
use Rattle.spec.specs.HeightEquations.{Sized, height_is}

-- heights that meet the local equations are the store's: the equations have one solution ..
pub one_solution : (s : Store) → Sized s → (h : ℕ → ℕ) → Local (LinkedTo s) (round_at s) (Top s) s.conf.history_rounds h → (p : ℕ) → h p ≡ height s p
one_solution s z h l p = height_unique (local→paths (LinkedTo s) (round_at s) (down s) (Top s) s.conf.history_rounds h l p) (height_is s z p)

-- .. which the path heights are
pub heights_local : (s : Store) → Sized s → Local (LinkedTo s) (round_at s) (Top s) s.conf.history_rounds (height s)
heights_local s z = paths→local (LinkedTo s) (round_at s) (down s) (Top s) s.conf.history_rounds (height s) (height_is s z)
