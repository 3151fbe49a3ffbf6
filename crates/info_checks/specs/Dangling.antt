-- A link into a retained round that leads to no named point (01: 'Refusals' 12).
use Rattle.std.specs.Prelude.{ℕ, ◌+◌, ◌-◌, ◌*◌, ◌≤◌, ◌<◌, ◌≡◌, Bool, false, ◌&&◌, leb, get_or}
use Rattle.std.proofs.Math.Path.{sym, ap}
use Rattle.std.proofs.Common.{◌∙◌, arith, add-one, le-leb}
use mathlib.Core.List.{List}
use Rattle.std.proofs.lemmas.Bool.{lt-leb}
use Rattle.laws.specs.Test.{and_no, and_yes}
use Rattle.laws.specs.Scan.{any}
use Rattle.dag_round_keys.specs.Id.{id_from}
use Rattle.dag_round_keys.specs.Key.{key}
use Rattle.dag_round_keys.specs.Sorted.{point_at}
use Rattle.info_checks.specs.Form.{peer_at}
use Rattle.commit_state.specs.declared.state.State.{State}

-- the id that link j leads to in round r, as the words of a place
abbrev pub link_words : List ℕ → ℕ → ℕ → List ℕ
link_words rs j r = id_from rs (j * 5 + 1) r (peer_at rs j)

-- the position of the point that link j leads to in round r, or the number of used places
unfoldable pub found_at : State → List ℕ → List ℕ → List ℕ → ℕ → ℕ → ℕ
found_at s ks os rs j r = point_at ks os s.count (key (link_words rs j r) 0) (peer_at rs j)

-- link j of a point of round r leads d rounds down into a retained round, and to no named point
unfoldable pub is_dangling : State → List ℕ → List ℕ → List ℕ → ℕ → ℕ → ℕ → Bool
is_dangling s ks os rs d r j = leb (s.bottom.0 + d) r && leb s.count (found_at s ks os rs j (r - d))

-- one of the m links from link j on does
abbrev pub any_dangling : State → List ℕ → List ℕ → List ℕ → ℕ → ℕ → ℕ → ℕ → Bool
any_dangling s ks os rs d r j m = any m (λ i. is_dangling s ks os rs d r (j + i))

-- ---- the code's steps

module _ (s : State) (ks os rs : List ℕ) where
  -- found by the words w, with the peer p that is read
  pub found_by_lem : (w : List ℕ) (j r x p : ℕ) → p ≡ peer_at rs j → w ≡ id_from rs (j * 5 + 1) r p → x ≡ point_at ks os s.count (key w 0) (get_or w 1 0) → x ≡ found_at s ks os rs j r
  unfolding found_at id_from
  found_by_lem w j r x p f e h = h ∙ ap (λ (z : List ℕ). point_at ks os s.count (key z 0) (get_or z 1 0)) (e ∙ ap (id_from rs (j * 5 + 1) r) f)

  -- the link leads below the bottom
  pub dangling-below : (d r j : ℕ) → r < s.bottom.0 + d → false ≡ is_dangling s ks os rs d r j
  unfolding is_dangling
  dangling-below d r j l = sym (and_no _ (lt-leb (s.bottom.0 + d) r l))

  -- it is looked for
  pub dangling_by : (d r j x : ℕ) → s.bottom.0 + d ≤ r → x ≡ found_at s ks os rs j (r - d) → leb s.count x ≡ is_dangling s ks os rs d r j
  unfolding is_dangling
  dangling_by d r j x l e = sym (and_yes (le-leb (s.bottom.0 + d) r l) (ap (leb s.count) (sym e)))

-- one number more that fails
pub none_more : (f : ℕ → Bool) (i : ℕ) → any i f ≡ false → f i ≡ false → any (i + 1) f ≡ false
unfolding any
none_more f i e g = rw (add-one i, g) e

-- none has failed
pub none_end : (f : ℕ → Bool) (i m : ℕ) → any i f ≡ false → i ≤ m → m ≤ i → false ≡ any m f
none_end f i m e l k = let x : i ≡ m = omega arith in sym (rw x at e)
