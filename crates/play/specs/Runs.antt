-- Records played one after another.
use Rattle.std.specs.Prelude.{ℕ, ◌+◌, ◌-◌, ◌<◌, ◌≤◌, ◌≡◌, List, [], ◌++◌, ◌⊎◌, Bool, length, get_or}
use Rattle.std.proofs.Common.{sym, ap, subst, ◌∙◌, append_assoc, append-nil, arith, add-zero}
use Rattle.commit_answer.specs.Answer.{Tables, answer_of}
use Rattle.commit_answer.specs.declared.answer.Outcome.{Outcome}
use Rattle.trace.specs.Kinds.{kind_of}
use Rattle.trace.specs.Head.{code_at, head_at, rest_at, fields_at, least_left, head_good, code_whole}
use Rattle.trace.specs.Within.{code_within, kind-within, rest_within, fields_within}
use Rattle.trace.specs.declared.head.Record.{Record}
use Rattle.lines.specs.Lines.{said_text}
use Rattle.play.specs.Plays.{Plays, PlaysAt, plays_good}

-- The records of bs before p, one after another, make c of the tables b. room: the buffer that each call is lent, if it takes one. t: the bytes
-- of N5's lines of what they answered. w: whether the bench's outlook is known
pub data Runs (w : Bool) (room bs : List ℕ) (b : Tables) : ℕ → List ℕ → Tables → Type 0 where
  none_yet : Runs w room bs b 0 [] b
  one_more : {p : ℕ} {t : List ℕ} {c : Tables} (o : Outcome) (d : Tables) (v : List ℕ) → Runs w room bs b p t c → code_at w bs p ≡ 0 → Plays (kind_of (get_or bs (p + 5) 0)) (fields_at bs p) room c o d v
      → Runs w room bs b (p + 4 + rest_at bs p) (t ++ said_text (get_or bs (p + 5) 0) (answer_of o.answer) v) d

-- the play of bs stops at p: code is the number that the record there is refused with, or 0 where too few bytes or too little room for lines is left
abbrev pub Ends : Bool → List ℕ → Bool → ℕ → ℕ → ℕ → ℕ → Type 0
Ends w bs last room most p code = (p ≤ length bs) × (code ≡ 0 → (length bs - p < least_left last) ⊎ (room < most)) × ((code ≡ 0 → ⊥) → (least_left last ≤ length bs - p) × (code ≡ code_at w bs p))

-- ---- laws

module _ (w : Bool) (room bs : List ℕ) (b : Tables) where
  moved : {p q : ℕ} {t u : List ℕ} {c : Tables} → p ≡ q → t ≡ u → Runs w room bs b p t c → Runs w room bs b q u c
  moved {p} {q} {t} {u} {c} e f r = subst (λ (i : ℕ). Runs w room bs b i u c) e (subst (λ (l : List ℕ). Runs w room bs b p l c) f r)

  -- a record more, as it was found
  pub runs_more : (c d : Tables) (v t u : List ℕ) (p e k x : ℕ) (o : Outcome) → Runs w room bs b p t c → x ≡ code_at w bs p → x ≡ 0 → k ≡ (head_at w bs p).kind → e ≡ (head_at w bs p).end → PlaysAt w room bs p c o d v
      → u ≡ said_text k (answer_of o.answer) v → Runs w room bs b e (t ++ u) d
  runs_more c d v t u p e k x o r g z h f q s =
      let z0 : code_at w bs p ≡ 0 = sym g ∙ z in
      let n = head_good bs p (code_at w bs p) z0 in
      moved (sym (f ∙ ap (λ (y : Record). y.end) n)) (ap (λ (l : List ℕ). t ++ l) (ap (λ (i : ℕ). said_text i (answer_of o.answer) v) (sym (h ∙ ap (λ (y : Record). y.kind) n)) ∙ sym s))
      (one_more o d v r z0 (plays_good w room bs p c d v o z0 q))

-- a run of the bytes xs goes on where a run of more bytes, with xs in them, has come to xs
pub runs_on : (w : Bool) (room zs xs es : List ℕ) (b c d : Tables) (x : ℕ) (t u : List ℕ) → Runs w room xs c x u d → Runs w room (zs ++ (xs ++ es)) b (length zs) t c → Runs w room (zs ++ (xs ++ es)) b (length zs + x) (t ++ u) d
runs_on w room zs xs es b c d x t u none_yet r = moved w room _ b (sym (add-zero (length zs))) (sym (append-nil t)) r
runs_on w room zs xs es b c d x t u (one_more {p = y} {t = s} {c = e} o d2 v q z m) r =
    let h = code_whole xs y w z in
    let i = kind-within zs xs es y h in
    moved w room _ b
    (ap (λ (n : ℕ). length zs + y + 4 + n) (rest_within zs xs es y h) ∙ on (length zs) y (rest_at xs y))
    (ap (λ (k : ℕ). (t ++ s) ++ said_text k (answer_of o.answer) v) i ∙ append_assoc t s (said_text (get_or xs (y + 5) 0) (answer_of o.answer) v))
    (one_more o d2 v (runs_on w room zs xs es b c e y t s q r) (code_within zs xs es y h w ∙ z)
    (subst (λ (f : List ℕ). Plays (kind_of (get_or (zs ++ (xs ++ es)) (length zs + y + 5) 0)) f room e o d2 v) (sym (fields_within zs xs es y h))
    (subst (λ (k : ℕ). Plays (kind_of k) (fields_at xs y) room e o d2 v) (sym i) m)))
  where
    on : (n y r : ℕ) → n + y + 4 + r ≡ n + (y + 4 + r)
    on n y r = omega arith
