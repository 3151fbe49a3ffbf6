-- One record played, with its lines.
use Rattle.std.specs.Prelude.{◌≡◌, ℕ, ◌≤◌, Bool, true, false, cond, List, [], ◌++◌, ◌≢◌, refl}
use Rattle.std.proofs.Common.{sym, ◌∙◌, arith}
use Rattle.std.proofs.Math.Path.{ap, subst}
use mathlib.Core.List.{append-nil}
use Rattle.laws.specs.Test.{clash}
use Rattle.laws.specs.Lists.{joined}
use Rattle.spec.specs.Demand.{finished}
use Rattle.spec.specs.Calls as calls
use Rattle.commit_answer.specs.Answer.{Tables, view_of, answer_of, outcome_of, Did}
use Rattle.commit_answer.specs.declared.answer.Answer.{Answer}
use Rattle.commit_answer.specs.declared.answer.Outcome.{Outcome}
use Rattle.trace.specs.Kinds as kind
use Rattle.trace.specs.Kinds.{kind_of, known}
use Rattle.trace.specs.Numbers.{id_at}
use Rattle.trace.specs.Fields.{call_by}
use Rattle.trace.specs.Head.{code_at, head_at, part, lists_in, head_bad}
use Rattle.trace.specs.declared.head.Record.{Record}
use Rattle.lines.specs.Lines.{said_text, said_lines, said_anchors, refusal_lines, lines_at, text, Holds}
use Rattle.lines.specs.Put.{Put, put-none, put_then}
use Rattle.lines.specs.Held.{call-holds}
use Rattle.play_calls.specs.Calls.{takes_buffer, model_by}
use Rattle.play_calls.specs.Room.{zeros, zeros-length}
use Rattle.play.specs.Plays.{PlaysAt}
use Rattle.play.specs.Runs.{Runs, none_yet, runs_more}

-- the bytes u of lines, from `at` on in b, up to n: d. With w, the bench's lines stand elsewhere
abbrev pub Lined : Bool → List ℕ → ℕ → List ℕ → ℕ → List ℕ → Type 0
Lined w b at u n d = (w ≡ false → Put b at u n d) × (w ≡ true → (n ≡ at) × (d ≡ b))

-- The record of bs at p, which ends at e, makes d of the tables c. Its lines are put into x from `at` on, up to n: y. w, room: as in Runs
pub record Steps (w : Bool) (room bs : List ℕ) (p : ℕ) (c d : Tables) (e : ℕ) (x : List ℕ) (at n : ℕ) (y : List ℕ) : Type 0 where
  pub outcome : Outcome
  pub buffer : List ℕ
  pub plays : PlaysAt w room bs p c outcome d buffer
  pub ends : e ≡ (head_at w bs p).end
  pub lined : Lined w x at (said_text (head_at w bs p).kind (answer_of outcome.answer) buffer) n y

-- The records of bs before p make c of the tables b, and their lines y of x, up to n
pub record Parts (w : Bool) (room bs : List ℕ) (b : Tables) (p : ℕ) (c : Tables) (x : List ℕ) (n : ℕ) (y : List ℕ) : Type 0 where
  pub said : List ℕ
  pub runs : Runs w room bs b p said c
  pub lined : Lined w x 0 said n y

-- ---- laws

-- a commit's records stand within the buffer
pub step-holds : (w : Bool) (m : ℕ) (bs : List ℕ) (p k : ℕ) (c d : Tables) (o : Outcome) (v : List ℕ) → PlaysAt w (zeros m) bs p c o d v → k ≡ (head_at w bs p).kind → m ≤ 4096 → k ≡ 6 → Holds (finished (answer_of o.answer)) v
unfolding kind_of call_by outcome_of
step-holds w m bs p k c d o v q g l e =
    let room : List ℕ = zeros m in
    let f : List ℕ = part bs (head_at w bs p).from (head_at w bs p).end in
    let h = subst (λ (i : ℕ). known (kind_of i) ≡ true → Did (call_by (kind_of i) f room) (model_by (kind_of i) f room) c (record { answer = o.answer; tables = d; buffer = cond (takes_buffer (kind_of i)) v [] })) (sym g ∙ e) q.makes.made refl in
    subst (λ (y : calls.Outcome). Holds (finished y.answer) y.buffer) (sym h.answer) (call-holds (view_of c) (id_at f 0) (lists_in f) room (omega (arith, zeros-length m)))

-- by the two ways out of a step: the bench's lines, and N5's
module _ (w : Bool) (room bs : List ℕ) (p : ℕ) (c d : Tables) (e : ℕ) (o : Outcome) (v x : List ℕ) (at : ℕ) (q : PlaysAt w room bs p c o d v) (g : e ≡ (head_at w bs p).end) where
  pub step_bench : w ≡ true → Steps w room bs p c d e x at at x
  step_bench h = record { outcome = o; buffer = v; plays = q; ends = g; lined = (λ f. absurd (clash h f), λ _. (refl, refl)) }

  pub step_lines : (n k : ℕ) (y : List ℕ) → w ≡ false → k ≡ (head_at w bs p).kind → Put x at (said_text k (answer_of o.answer) v) n y → Steps w room bs p c d e x at n y
  step_lines n k y h i u = record {
    outcome = o;
    buffer = v;
    plays = q;
    ends = g;
    lined = (λ _. subst (λ (j : ℕ). Put x at (said_text j (answer_of o.answer) v) n y) i u, λ t. absurd (clash t h));
  }

-- lines after lines
lined_more : (w : Bool) (b d e t u : List ℕ) (n m : ℕ) → Lined w b 0 t n d → Lined w d n u m e → Lined w b 0 (t ++ u) m e
lined_more w b d e t u n m (f, g) (h, i) = (λ z. put_then b 0 t u n m d e (f z) (h z), λ z. ((i z).0 ∙ (g z).0, (i z).1 ∙ (g z).1))

pub part_none : (w : Bool) (room bs : List ℕ) (b : Tables) (x : List ℕ) → Parts w room bs b 0 b x 0 x
part_none w room bs b x = record { said = []; runs = none_yet; lined = (λ _. put-none x 0, λ _. (refl, refl)) }

module _ (w : Bool) (h i : ℕ) (f : i ≡ h) (bs : List ℕ) (b c d : Tables) (p e n m k : ℕ) (x y z : List ℕ) (r : Parts w (zeros h) bs b p c x n y) (q : Steps w (zeros i) bs p c d e y n m z) (g : k ≡ code_at w bs p) where
  s : Steps w (zeros h) bs p c d e y n m z
  s = subst (λ (j : ℕ). Steps w (zeros j) bs p c d e y n m z) f q

  -- a record more
  pub part-more : k ≡ 0 → Parts w (zeros h) bs b e d x m z
  part-more z0 = record {
    said = r.said ++ said_text (head_at w bs p).kind (answer_of s.outcome.answer) s.buffer;
    runs = runs_more w (zeros h) bs b c d s.buffer r.said _ p e _ k s.outcome r.runs g z0 refl s.ends s.plays refl;
    lined = lined_more w x y z r.said _ n m r.lined s.lined;
  }

  -- none: a record that is refused changes nothing, and has no line yet
  pub part_stays : (k ≢ 0) → Parts w (zeros h) bs b p d x m z
  unfolding kind_of answer_of said_text said_lines said_anchors refusal_lines lines_at text joined
  part_stays nz =
      let a : head_at w bs p ≡ record { code = code_at w bs p; kind = 0; from = p; end = p } = head_bad bs p (code_at w bs p) (λ o. nz (g ∙ o)) in
      let (o, j) = s.plays.makes.broken (ap (λ (v : Record). known (kind_of v.kind)) a) in
      let u : said_text (head_at w bs p).kind (answer_of s.outcome.answer) s.buffer ≡ [] =
      ap (λ (v : Record). said_text v.kind (answer_of s.outcome.answer) s.buffer) a ∙ ap (λ (v : Answer). said_text 0 (answer_of v) s.buffer) o in
      record {
        said = r.said;
        runs = subst (λ (t : Tables). Runs w (zeros h) bs b p r.said t) (sym j) r.runs;
        lined = subst (λ (l : List ℕ). Lined w x 0 l m z) (ap (λ (l : List ℕ). r.said ++ l) u ∙ append-nil r.said) (lined_more w x y z r.said _ n m r.lined s.lined);
      }
