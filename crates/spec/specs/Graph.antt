-- Laws of paths, over any relation E of places.
use Rattle.std.specs.Prelude.{ℕ, ◌≤◌, ◌<◌, ◌≡◌, refl, ◌⊎◌}
use Rattle.std.proofs.Common.{subst, inl, inr, arith}
use Rattle.spec.specs.Paths.{Path, here, step}

-- one path after another
pub append : {A : Type 0} {E : A → A → Type 0} {p q r : A} → Path E p q → Path E q r → Path E p r
append here b = b
append (step e a) b = step e (append a b)

-- one link more at the end
pub snoc : {A : Type 0} {E : A → A → Type 0} {p q r : A} → Path E p q → E q r → Path E p r
snoc a e = append a (step e here)

-- a path in one graph is a path in another that has all the links, as far as the links from its points go
pub carry : {E F : ℕ → ℕ → Type 0} → ((p q : ℕ) → E p q → F p q) → {p q : ℕ} → Path E p q → Path F p q
carry f here = here
carry f (step {p = p} {q = q} e a) = step (f p q e) (carry f a)

-- what holds of the start and is handed on along links, holds of the end
pub along : {E : ℕ → ℕ → Type 0} (P : ℕ → Type 0) → ((p q : ℕ) → E p q → P p → P q) → {p q : ℕ} → Path E p q → P p → P q
along P f here h = h
along P f (step {p = p} {q = q} e a) h = along P f a (f p q e h)

-- every link leads down to a lower round
abbrev pub Down : (E : ℕ → ℕ → Type 0) → (ℕ → ℕ) → Type 0
Down E rnd = (p q : ℕ) → E p q → rnd q < rnd p

-- so no path leads up
pub path_down : {E : ℕ → ℕ → Type 0} {rnd : ℕ → ℕ} → Down E rnd → {p q : ℕ} → Path E p q → rnd q ≤ rnd p
path_down d {p} here = omega arith
path_down {rnd = rnd} d (step {p = p} {q = q} {r = r} e a) = let h : rnd r ≤ rnd q = path_down d a in omega (arith, d p q e)

-- a path read from its end
pub last_link : {E : ℕ → ℕ → Type 0} {p q : ℕ} → Path E p q → (p ≡ q) ⊎ ((r : ℕ) × Path E p r × E r q)
last_link here = inl refl
last_link {E} (step {p = p} {q = x} {r = q} e a) = go (last_link a)
  where
    go : (x ≡ q) ⊎ ((r : ℕ) × Path E x r × E r q) → (p ≡ q) ⊎ ((r : ℕ) × Path E p r × E r q)
    go (inl eq) = inr (p, here, subst (E p) eq e)
    go (inr (r, b, l)) = inr (r, step e b, l)
