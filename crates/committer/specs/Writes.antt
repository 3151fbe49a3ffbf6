-- Records of calls that are made with other words for the same.
use Rattle.std.specs.Prelude.{ℕ, ◌≡◌, List}
use Rattle.std.proofs.Common.{subst}
use Rattle.spec.specs.Ids.{Id}
use Rattle.spec.specs.Calls.{Call}
use Rattle.models.specs.declared.info.PointInfo.{PointInfo}
use Rattle.trace_write.specs.Puts.{Puts}
use Rattle.trace_write.specs.Resolve.{PutsResolve}

-- of a call made with u, which equals v
pub puts_with : {A : Type 0} (c : A → Call) (u v : A) → u ≡ v → (b : List ℕ) (x n : ℕ) (d : List ℕ) → Puts b (c u) x n d → Puts b (c v) x n d
puts_with {A} c u v e b x n d h = subst (λ (z : A). Puts b (c z) x n d) e h

pub resolve_with : (u v : PointInfo) → u ≡ v → (b : List ℕ) (i : Id) (rs : List ℕ) (x n : ℕ) (d : List ℕ) → PutsResolve b i u rs x n d → PutsResolve b i v rs x n d
resolve_with u v e b i rs x n d h = subst (λ (z : PointInfo). PutsResolve b i z rs x n d) e h
