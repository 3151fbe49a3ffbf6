-- Heights by paths from tops and by direct predecessors are the same (01: cert.rs).
use Rattle.std.specs.Prelude.{ℕ, suc, ◌-◌, ◌≤◌, ◌≡◌, ◌⊎◌}
use Rattle.std.proofs.Common.{inl, inr, arith, le_antisymm}
use Rattle.spec.specs.Paths.{Path, height_from, IsHeight}
use Rattle.spec.specs.Graph.{carry}

-- why the table may hold the height n at p
pub data Why (LinkedTo : ℕ → ℕ → Type 0) (rnd : ℕ → ℕ) (top : ℕ → Type 0) (H : ℕ) (h : ℕ → ℕ) (p : ℕ) : Type 0 where
  none : h p ≡ 0 → Why LinkedTo rnd top H h p
  self : top p → h p ≡ suc H → Why LinkedTo rnd top H h p
  link : (q : ℕ) → LinkedTo q p → h p ≡ h q - (rnd q - rnd p) → Why LinkedTo rnd top H h p

-- the equations that the table's heights are tested by
pub record Local (LinkedTo : ℕ → ℕ → Type 0) (rnd : ℕ → ℕ) (top : ℕ → Type 0) (H : ℕ) (h : ℕ → ℕ) : Type 0 where
  pub cap : (p : ℕ) → h p ≤ suc H
  pub own : (p : ℕ) → top p → suc H ≤ h p
  pub from : (q p : ℕ) → LinkedTo q p → h q - (rnd q - rnd p) ≤ h p
  pub why : (p : ℕ) → Why LinkedTo rnd top H h p

height-le : {LinkedTo : ℕ → ℕ → Type 0} {rnd : ℕ → ℕ} {top : ℕ → Type 0} {H p m n : ℕ} → IsHeight LinkedTo rnd top H p m → IsHeight LinkedTo rnd top H p n → m ≤ n
height-le {LinkedTo} {rnd} {top} {H} {p} {m} {n} a b = go a.met
  where
    go : (m ≡ 0) ⊎ ((t : ℕ) × top t × Path LinkedTo t p × (m ≡ height_from H rnd t p)) → m ≤ n
    go (inl e) = omega arith
    go (inr (t, to, w, e)) = omega (arith, b.bound t to w)

-- a height is one number only
pub height_unique : {LinkedTo : ℕ → ℕ → Type 0} {rnd : ℕ → ℕ} {top : ℕ → Type 0} {H p m n : ℕ} → IsHeight LinkedTo rnd top H p m → IsHeight LinkedTo rnd top H p n → m ≡ n
height_unique a b = le_antisymm (height-le a b) (height-le b a)

-- more links and more tops: no height falls
pub height-rises : {LinkedTo F : ℕ → ℕ → Type 0} {rnd : ℕ → ℕ} {top top' : ℕ → Type 0} {H p m n : ℕ} → ((x y : ℕ) → LinkedTo x y → F x y) → ((x : ℕ) → top x → top' x) → IsHeight LinkedTo rnd top H p m → IsHeight F rnd top' H p n → m ≤ n
height-rises {LinkedTo} {F} {rnd} {top} {top'} {H} {p} {m} {n} f g a b = go a.met
  where
    go : (m ≡ 0) ⊎ ((t : ℕ) × top t × Path LinkedTo t p × (m ≡ height_from H rnd t p)) → m ≤ n
    go (inl e) = omega arith
    go (inr (t, to, w, e)) = omega (arith, b.bound t (g t to) (carry f w))
