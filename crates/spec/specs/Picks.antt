-- The points of a round picked by rising digest (02: N4).
use Prim.Native.Nat.{ℕ, zero, suc}
use Rattle.std.specs.Prelude.{Bool, not, ◌&&◌, eqb, leb}
use Rattle.std.proofs.Math.Path.{refl}
use Rattle.std.proofs.Math.Logic.{⊎_elim}
use mathlib.Core.List.Memᴰ
use mathlib.Core.List.{List, [], ◌∷◌, ◌++◌, Memᴰ}
use Rattle.std.proofs.Math.Option.{Option, none, some}
use Rattle.laws.specs.Test.{only}
use Rattle.laws.specs.Scan.{every, lowest}
use Rattle.laws.specs.Lists.{has, Pairs}
use Rattle.spec.specs.Store.{Store, id_at, round_at}
use Rattle.spec.specs.History.{needed}

-- ---- definitions

-- "the needed point .. not yet picked": q is one of round r; done: the places picked so far
unfoldable pub is_left : Store → ℕ → ℕ → List ℕ → ℕ → Bool
is_left s a r done q = needed s a q && (eqb (round_at s q) r && not (has (eqb q) done))

-- "of least digest"
unfoldable pub is_least : Store → ℕ → ℕ → List ℕ → ℕ → Bool
is_least s a r done q =
    is_left s a r done q && every s.places (λ p. only (is_left s a r done p) (leb (id_at s q).digest (id_at s p).digest))

-- "Each pick is the needed point of least digest not yet picked", "out of the round's places"
unfoldable pub pick : Store → ℕ → ℕ → List ℕ → Option ℕ
pick s a r done = lowest s.places (is_least s a r done)

-- "pick them by rising digest": k picks, one after another
unfoldable pub picks : Store → ℕ → ℕ → ℕ → List ℕ
picks s a r zero = []
picks s a r (suc k) =
    let done = picks s a r k in
    elim (pick s a r done) [ none ↦ done | some q ↦ done ++ q ∷ [] ]

-- ---- a round's picks

-- each stands in R to those after it
pub pairs_after : (R : ℕ → ℕ → Type 0) (u v : List ℕ) (x : ℕ) → Pairs R (u ++ (x ∷ v)) → (y : ℕ) → Memᴰ y v → R x y
pairs_after R [] v x p = p.0
pairs_after R (z ∷ u) v x p = pairs_after R u v x p.1

-- those before it stand in R to it
pub pairs_before : (R : ℕ → ℕ → Type 0) (u v : List ℕ) (x : ℕ) → Pairs R (u ++ (x ∷ v)) → (y : ℕ) → Memᴰ y u → R y x
pairs_before R [] v x p y m = absurd (Memᴰ.not-nil m)
pairs_before R (z ∷ u) v x p y m =
    ⊎_elim (λ e. rw e (p.0 x (Memᴰ.append_right u (Memᴰ.head refl)))) (pairs_before R u v x p.1 y) (Memᴰ.cases_cons m)
