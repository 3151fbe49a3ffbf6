-- Paths of links and heights (01: cert.rs, 'Demand 3').
use Rattle.std.specs.Prelude.{ℕ, zero, suc, ◌-◌, ◌≤◌, ◌≡◌, ◌⊎◌, Bool, true, false, ◌&&◌, eqb, ltb}
use Rattle.laws.specs.Scan.{any, best}
use Rattle.spec.specs.Store.{Store, links_to, round_at}

-- 01, 'Demand 3': "A *path* is zero or more links". Over any relation of points.
pub data Path {A : Type 0} (LinkedTo : A → A → Type 0) : A → A → Type 0 where
  here : {p : A} → Path LinkedTo p p
  step : {p q r : A} → LinkedTo p q → Path LinkedTo q r → Path LinkedTo p r

-- a link of a resolved point to a named one
abbrev pub LinkedTo : Store → ℕ → ℕ → Type 0
LinkedTo s p q = links_to (s.pt p) (s.pt q) ≡ true

-- 01, cert.rs: "Certifying marks a point as top."
abbrev pub is_top : Store → ℕ → Bool
is_top s t = (s.pt t).named && (s.pt t).flags.top

abbrev pub Top : Store → ℕ → Type 0
Top s t = is_top s t ≡ true

-- 01, cert.rs: "H + 1 − (top's round − its round)", what the top t gives the point p; 0 where it isn't above 0
abbrev pub height_from : ℕ → (ℕ → ℕ) → ℕ → ℕ → ℕ
height_from H round t p = suc H - (round t - round p)

-- 01, cert.rs: "A point's height is the largest H + 1 − (top's round − its round) that is above 0, over all retained tops from which a
-- path of links of resolved points leads to it (the top itself included), else 0." n is the height of p.
pub record IsHeight (LinkedTo : ℕ → ℕ → Type 0) (round : ℕ → ℕ) (Top : ℕ → Type 0) (H p n : ℕ) : Type 0 where
  pub bound : (t : ℕ) → Top t → Path LinkedTo t p → height_from H round t p ≤ n
  pub met : (n ≡ 0) ⊎ ((t : ℕ) × Top t × Path LinkedTo t p × (n ≡ height_from H round t p))

-- the same as a function: whether a path of at most k links leads from p to q ..
unfoldable pub reach : Store → ℕ → ℕ → ℕ → Bool
reach s zero p q = eqb p q
reach s (suc k) p q = elim (eqb p q) [ true ↦ true | false ↦ any s.places (λ x. elim (links_to (s.pt p) (s.pt x)) [ true ↦ reach s k x q | false ↦ false ]) ]

-- .. what t gives p, 0 where no path leads from it (a path from t has at most as many links as t's round) ..
unfoldable pub height_via : Store → ℕ → ℕ → ℕ
height_via s p t = elim (is_top s t) [ true ↦ elim (reach s (round_at s t) t p) [ true ↦ height_from s.conf.history_rounds (round_at s) t p | false ↦ 0 ] | false ↦ 0 ]

-- .. and the largest of them: the height of the point at place p
unfoldable pub height : Store → ℕ → ℕ
height s p = best s.places (height_via s p)

-- 01, cert.rs: "Certified: height above 0. Proved: top bit as well."
unfoldable pub certified : Store → ℕ → Bool
certified s p = ltb 0 (height s p)

unfoldable pub proved : Store → ℕ → Bool
proved s p = certified s p && (s.pt p).flags.top
