-- Theorems on the definitions of specs/Heights.
use Rattle.std.specs.Prelude.{ℕ, zero, suc, ◌+◌, ◌-◌, ◌≤◌, ◌<◌, ◌≡◌, ◌⊎◌}
use Rattle.std.proofs.Common.{subst, ap, inl, inr, arith}
use Rattle.laws.specs.Test.{zero_or_more}
use Rattle.spec.specs.Paths.{Path, here, step, height_from, IsHeight}
use Rattle.spec.specs.Graph.{snoc, Down, path_down, last_link}
use Rattle.spec.specs.Heights.{Why, Local, none, self, link}

module _ (LinkedTo : ℕ → ℕ → Type 0) (rnd : ℕ → ℕ) (down : Down LinkedTo rnd) (top : ℕ → Type 0) (H : ℕ) (h : ℕ → ℕ) where
  over : Local LinkedTo rnd top H h → {x p : ℕ} → Path LinkedTo x p → h x - (rnd x - rnd p) ≤ h p
  over l {x} here = omega arith
  over l (step {p = x} {q = q} {r = p} e a) =
      let i : h q - (rnd q - rnd p) ≤ h p = over l a in
      let d : rnd p ≤ rnd q = path_down down a in
      omega (arith, l.from x q e, down x q e)

  abbrev Found : ℕ → Type 0
  Found p = (h p ≡ 0) ⊎ ((t : ℕ) × top t × Path LinkedTo t p × (h p ≡ height_from H rnd t p))

  -- one link further up, if the height is above 0
  up : (p q : ℕ) → LinkedTo q p → h p ≡ h q - (rnd q - rnd p) → (h p ≡ 0) ⊎ (0 < h p) → (0 < h p → Found q) → Found p
  up p q e eq (inl z) f = inl z
  up p q e eq (inr z) f = go (f z)
    where
      go : Found q → Found p
      go (inl w) = inl (omega arith)
      go (inr (t, to, w, m)) = inr (t, to, snoc w e, (let d : rnd q ≤ rnd t = path_down down w in omega (arith, down q p e)))

  reason : Local LinkedTo rnd top H h → (k p : ℕ) → suc H ≤ h p + k → Found p
  reason l zero p f = go (l.why p)
    where
      go : Why LinkedTo rnd top H h p → Found p
      go (none e) = inl e
      go (self t e) = inr (p, t, here, omega arith)
      go (link q e eq) = up p q e eq (zero_or_more (h p)) (λ z. absurd (omega (arith, l.cap q, down q p e)))
  reason l (suc k) p f = go (l.why p) (reason l k)
    where
      go : Why LinkedTo rnd top H h p → ((q : ℕ) → suc H ≤ h q + k → Found q) → Found p
      go (none e) r = inl e
      go (self t e) r = inr (p, t, here, omega arith)
      go (link q e eq) r = up p q e eq (zero_or_more (h p)) (λ z. r q (omega (arith, down q p e)))

  -- the table's equations give the heights by paths
  pub local→paths : Local LinkedTo rnd top H h → (p : ℕ) → IsHeight LinkedTo rnd top H p (h p)
  local→paths l p = record {
    bound = λ t to w. omega (arith, l.own t to, over l w);
    met = reason l (suc H) p (omega arith);
  }

  -- and the heights by paths satisfy them
  pub paths→local : ((p : ℕ) → IsHeight LinkedTo rnd top H p (h p)) → Local LinkedTo rnd top H h
  paths→local i = record {
    cap = λ p. cap p (i p).met;
    own = λ p t. omega (arith, (i p).bound p t here);
    from = λ q p e. from q p e (i q).met;
    why = λ p. why p (i p).met;
  }
    where
      cap : (p : ℕ) → Found p → h p ≤ suc H
      cap p (inl e) = omega arith
      cap p (inr (t, to, w, e)) = omega arith

      from : (q p : ℕ) → LinkedTo q p → Found q → h q - (rnd q - rnd p) ≤ h p
      from q p e (inl z) = omega arith
      from q p e (inr (t, to, w, m)) = let d : rnd q ≤ rnd t = path_down down w in omega (arith, down q p e, (i p).bound t to (snoc w e))

      ends : (p t : ℕ) → top t → (t ≡ p) ⊎ ((r : ℕ) × Path LinkedTo t r × LinkedTo r p) → h p ≡ height_from H rnd t p → Why LinkedTo rnd top H h p
      ends p t to (inl e) m = self (subst top e to) (omega (arith, ap rnd e))
      ends p t to (inr (r, w, e)) m = link r e (let d : rnd r ≤ rnd t = path_down down w in omega (arith, down r p e, (i r).bound t to w, from r p e (i r).met))

      why : (p : ℕ) → Found p → Why LinkedTo rnd top H h p
      why p (inl e) = none e
      why p (inr (t, to, w, e)) = ends p t to (last_link w) e
