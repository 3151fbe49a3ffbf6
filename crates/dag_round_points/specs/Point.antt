-- The point that an id names: what a call is refused with, and the point's place (01: 'Refusals' 5, 6, 9).
use Rattle.std.specs.Prelude.{ℕ, ◌/◌, ◌*◌, ◌<◌, ◌≤◌, ◌≡◌, refl, List, Bool, true, false, cond, ltb, length, get_or}
use Rattle.std.proofs.Common.{sym, ◌∙◌, ap, arith, le-ltb}
use Rattle.laws.specs.Test.{le_or, and_l, cond_no}
use Rattle.laws.specs.Scan.{first_hit}
use Rattle.models.specs.Tables.{round_at, status_at, place_at, Inside, Used, inside_keys}
use Rattle.models.specs.DagPoint.{case_of}
use Rattle.models.specs.Refusal.{numbered}
use Rattle.models.specs.declared.refusal.Refusal.TheVariants.{Number}
use Rattle.models.specs.declared.parts.PointId.{PointId}
use Rattle.dag_round_keys.specs.Key.{key, same-eq}
use Rattle.dag_round_keys.specs.Sorted.{Sorted, point_at}
use Rattle.dag_round_keys.specs.Look.{look_as, look_place, look_for}
use Rattle.dag_round_keys.specs.declared.look.Look.{Look}
use Rattle.dag_round_keys.specs.declared.look.Look.TheVariants.{Resolved, Named, Never}
use Rattle.commit_state.specs.declared.state.State.{State}
use Rattle.dag_round_points.specs.Model.{Ready, id_words, or_else, id_code, words_eight, else_zero}
use Rattle.dag_round_points.specs.Codes.{found, found-next}
use Rattle.std.specs.Prelude.{Err, None, Ok, Option, Some}
use Rattle.models.specs.Refusal.{Check, no_refusal}
use Rattle.dag_round_points.specs.Codes.{Found}
use Rattle.models.specs.declared.dag_point.DagPoint.{DagPoint}

-- the position of the point with the words w of an id, or n
abbrev pub position_for : List ℕ → List ℕ → ℕ → List ℕ → ℕ
position_for ks os n w = point_at ks os n (key w 0) (get_or w 1 0)

-- 9 if no point has them
unfoldable pub missing : List ℕ → List ℕ → ℕ → List ℕ → ℕ
missing ks os n w = cond (ltb (position_for ks os n w) n) 0 9

-- what a call that names a point is refused with, 0 if it is not
unfoldable pub point_code : State → List ℕ → List ℕ → PointId → ℕ
point_code s ks os i = or_else (id_code s i) (missing ks os s.count (id_words i))

-- the place of the point
unfoldable pub place_for : State → List ℕ → List ℕ → PointId → ℕ
place_for s ks os i = place_at os (position_for ks os s.count (id_words i))

-- a search for the words v of an id can read the tables
pub searched : (ks os : List ℕ) (n : ℕ) (i : PointId) (v : List ℕ) → length ks ≡ length os * 8 → n ≤ length os → Inside os n (length os) → Sorted ks os n → v ≡ id_words i
    → ((n ≤ length os) × ((8 ≤ length v) × Inside os n (length ks / 8))) × Sorted ks os n
searched ks os n i v k l inside sorted e = ((l, (omega (arith, ap length e ∙ words_eight i), inside_keys ks os n k inside)), sorted)

pub searchable : (s : State) (ks os : List ℕ) (i : PointId) (v : List ℕ) → Ready s ks os → v ≡ id_words i
    → ((s.count ≤ length os) × ((8 ≤ length v) × Inside os s.count (length ks / 8))) × Sorted ks os s.count
searchable s ks os i v r e = searched ks os s.count i v r.0 r.2 r.3 r.4 e

-- a point that is not missing has a position
missing-zero : (ks os : List ℕ) (n : ℕ) (w : List ℕ) → missing ks os n w ≡ 0 → position_for ks os n w < n
unfolding missing
missing-zero ks os n w h = le_or n (position_for ks os n w) (λ l. absurd (omega (arith, sym h ∙ cond_no 0 9 9 (le-ltb _ n l) refl))) (λ l. l)

-- a found point is of the id's round
pub found-round : (ks os : List ℕ) (n : ℕ) (w : List ℕ) → position_for ks os n w < n → round_at ks (place_at os (position_for ks os n w)) ≡ get_or w 0 0
unfolding point_at key
found-round ks os n w l = ap (λ (k : List ℕ). get_or k 0 0) (same-eq _ _ (and_l _ _ (first_hit _ n l)))

-- the place that a look-up finds, or 9: "id not named"
unfoldable pub found_by : Look → Found
found_by (Resolved q p) = Ok q
found_by (Named q) = Ok q
found_by Never = Err (Number 9)

-- a place in use is found
found-place : (c : Option DagPoint) (q : ℕ) → found_by (look_as c q) ≡ Ok q
unfolding found_by look_as
found-place (Some p) q = refl
found-place None q = refl

-- what the code returns for an answer m to the words x of the id
pub found_by_lem : (ks os : List ℕ) (n : ℕ) (i : PointId) (x : List ℕ) → x ≡ id_words i → (l m : Look) → l ≡ look_for ks os n x → l ≡ m → found_by m ≡ found_by (look_for ks os n (id_words i))
found_by_lem ks os n i x e l m f g = ap found_by (sym g ∙ (f ∙ ap (look_for ks os n) e))

look-found : (s : State) (ks os : List ℕ) (i : PointId) → found_by (look_for ks os s.count (id_words i)) ≡ found (missing ks os s.count (id_words i)) (place_for s ks os i)
unfolding look_for look_place found_by found missing place_for
look-found s ks os i = by (ltb (position_for ks os s.count (id_words i)) s.count) (place_for s ks os i)
  where
    by : (b : Bool) (q : ℕ) → found_by (cond b (look_place ks q) Never) ≡ found (cond b 0 9) q
    by true q = found-place (case_of (status_at ks q)) q
    by false q = refl

-- and after the tests of the id
pub point-found : (s : State) (ks os : List ℕ) (i : PointId) (k : Check) → k ≡ numbered (id_code s i) → k ≡ no_refusal → (r : Found) → r ≡ found_by (look_for ks os s.count (id_words i)) → r ≡ found (point_code s ks os i) (place_for s ks os i)
unfolding point_code
point-found s ks os i k d p r f = found-next k (id_code s i) (missing ks os s.count (id_words i)) (place_for s ks os i) d p r (f ∙ look-found s ks os i)

module _ (s : State) (ks os : List ℕ) (i : PointId) (z : point_code s ks os i ≡ 0) where
  -- the point has a position
  found_position : position_for ks os s.count (id_words i) < s.count
  unfolding point_code
  found_position = missing-zero ks os s.count (id_words i) (else_zero _ _ z).1

  -- its place is used
  pub point_used : Used os s.count (place_for s ks os i)
  unfolding place_for
  point_used = (position_for ks os s.count (id_words i), found_position, refl)

  -- the point there is of the id's round
  pub point-round : round_at ks (place_for s ks os i) ≡ i.round.0
  unfolding place_for id_words
  point-round = found-round ks os s.count (id_words i) found_position
