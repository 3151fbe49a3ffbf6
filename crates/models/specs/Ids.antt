-- The ids that a place leads to: its previous point and its top proof (01: info.rs).
use Rattle.std.specs.Prelude.{ℕ, ◌+◌, ◌*◌, ◌<◌, ◌≤◌, ◌≡◌, List, [], ◌∷◌, Bool, ltb, length, get_or}
use Rattle.std.proofs.Common.{◌∙◌}
use Rattle.std.proofs.Math.Path.{ap, ap₂}
use Rattle.models.specs.Tables.{author_at, target_at, proof_round_at, proof_author_at}
use Rattle.models.specs.declared.parts.PointId.{PointId}

-- the id with the round r and the author a, and the digest in the four words of t from p on
unfoldable pub id_from : List ℕ → ℕ → ℕ → ℕ → PointId
id_from t p r a = record { round = record { 0 = r }; author = a; digest = record { 0 = get_or t (p + 0) 0 ∷ get_or t (p + 1) 0 ∷ get_or t (p + 2) 0 ∷ get_or t (p + 3) 0 ∷ [] } }

-- the place q has an include under its own author
unfoldable pub has_previous : List ℕ → List ℕ → ℕ → Bool
has_previous ks ls q = ltb 0 (target_at ls q (author_at ks q))

-- the id of that include, in the round r
unfoldable pub previous_id : List ℕ → List ℕ → ℕ → ℕ → PointId
previous_id ks ls q r = id_from ls (q * 328 + 72 + author_at ks q * 4) r (author_at ks q)

-- the id of the top proof of the place q
unfoldable pub top_id : List ℕ → ℕ → PointId
top_id ls q = id_from ls (q * 328 + 3) (proof_round_at ls q) (proof_author_at ls q)

-- the place q lies in the tables, and its author is a peer's number
abbrev pub Placed : List ℕ → List ℕ → ℕ → Type 0
Placed ks ls q = (q * 8 + 8 ≤ length ks) × (q * 328 + 328 ≤ length ls) × (author_at ks q < 32)

-- the links of the place q lie in the table, its top proof's round and author in their ranges
abbrev pub Topped : List ℕ → ℕ → Type 0
Topped ls q = (q * 328 + 328 ≤ length ls) × (proof_round_at ls q < 4294967296) × (proof_author_at ls q < 32)

-- ---- the code's steps, by the author a that is read

module _ (ks ls : List ℕ) (q a k : ℕ) (f : a ≡ author_at ks q) (e : k ≡ a) where
  pub previous_by : (x : ℕ) → x ≡ target_at ls q k → ltb 0 x ≡ has_previous ks ls q
  unfolding has_previous
  previous_by x h = ap (ltb 0) (h ∙ ap (target_at ls q) (e ∙ f))

  pub previous_from : (r : ℕ) (i : PointId) → i ≡ id_from ls (q * 328 + 72 + k * 4) r a → i ≡ previous_id ks ls q r
  unfolding previous_id
  previous_from r i h = h ∙ ap₂ (λ (x y : ℕ). id_from ls (q * 328 + 72 + x * 4) r y) (e ∙ f) f

-- by the round r and the author a that are read
pub top_by : (ls : List ℕ) (q r a : ℕ) (i : PointId) → r ≡ proof_round_at ls q → a ≡ proof_author_at ls q → i ≡ id_from ls (q * 328 + 3) r a → i ≡ top_id ls q
unfolding top_id
top_by ls q r a i e f h = h ∙ ap₂ (id_from ls (q * 328 + 3)) e f
