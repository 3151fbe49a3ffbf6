-- The look-up of a point: by its place, and by the words of its id (02: N3).
use Rattle.std.specs.Prelude.{ℕ, ◌<◌, ◌≤◌, ◌≡◌, List, cond, ltb, get_or}
use Rattle.std.proofs.Math.Path.{refl, subst}
use Rattle.std.proofs.Common.{sym, ◌∙◌, ap}
use borrow.Author.Tests.{lt-ltb, le-ltb}
use Rattle.laws.specs.Test.{le_or}
use Rattle.models.specs.Tables.{status_at, place_at}
use Rattle.models.specs.DagPoint.{case_of}
use Rattle.dag_round_keys.specs.declared.look.Look.{Look}
use Rattle.dag_round_keys.specs.declared.look.Look.TheVariants.{Resolved, Named, Never}
use Rattle.dag_round_keys.specs.Key.{key}
use Rattle.dag_round_keys.specs.Sorted.{point_at}
use Rattle.std.specs.Prelude.{None, Option, Some}
use Rattle.models.specs.declared.dag_point.DagPoint.{DagPoint}

-- of the place q, by the case of its point
unfoldable pub look_as : Option DagPoint → ℕ → Look
look_as (Some p) q = Resolved q p
look_as None q = Named q

-- of the place q
unfoldable pub look_place : List ℕ → ℕ → Look
look_place ks q = look_as (case_of (status_at ks q)) q

-- of the words w of an id, in the first n places of the order
unfoldable pub look_for : List ℕ → List ℕ → ℕ → List ℕ → Look
look_for ks os n w = let at = point_at ks os n (key w 0) (get_or w 1 0) in cond (ltb at n) (look_place ks (place_at os at)) Never

-- ---- one law for each way out of the code

pub look_by : (ks : List ℕ) (q : ℕ) (c x : Option DagPoint) → c ≡ case_of (status_at ks q) → c ≡ x → (r : Look) → r ≡ look_as x q → r ≡ look_place ks q
unfolding look_place
look_by ks q c x e d r h = h ∙ ap (λ (y : Option DagPoint). look_as y q) (sym d ∙ e)

module _ (ks os : List ℕ) (n : ℕ) (w : List ℕ) (x : ℕ) (e : x ≡ point_at ks os n (key w 0) (get_or w 1 0)) where
  pub look-found : x < n → (q : ℕ) → q ≡ place_at os x → (r : Look) → r ≡ look_place ks q → r ≡ look_for ks os n w
  unfolding look_for
  look-found l q d r h = h ∙ (ap (look_place ks) d ∙ rw (← e, lt-ltb x n l) refl)

  pub look_none : n ≤ x → Never ≡ look_for ks os n w
  unfolding look_for
  look_none l = rw (← e, le-ltb x n l) refl

-- ---- what an answer tells

module _ (ks os : List ℕ) (n : ℕ) (w : List ℕ) where
  -- where the id stands, or n
  abbrev at : ℕ
  at = point_at ks os n (key w 0) (get_or w 1 0)

  abbrev Told : Look → Type 0
  Told (Resolved q p) = (at < n) × (place_at os at ≡ q) × (case_of (status_at ks q) ≡ Some p)
  Told (Named q) = (at < n) × (place_at os at ≡ q) × (case_of (status_at ks q) ≡ None)
  Told Never = n ≤ at

  -- of an id
  pub look-told : (l : Look) → look_for ks os n w ≡ l → Told l
  unfolding look_for look_place look_as
  look-told l e = subst Told e (le_or n at (λ h. rw (le-ltb at n h) h) (λ h. rw (lt-ltb at n h) (go h (case_of (status_at ks (place_at os at))) refl)))
    where
      go : at < n → (c : Option DagPoint) → case_of (status_at ks (place_at os at)) ≡ c → Told (look_as c (place_at os at))
      go h (Some p) d = (h, refl, d)
      go h None d = (h, refl, d)
