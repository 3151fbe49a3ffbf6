-- Demand 3 (01: 'Demand 3'), the sums (02: N2) and the links behind the points (02: N7) of the code's loop over recorded calls, the ten of
-- 01's lists and resets: for all bytes, tables and buffers that it is given, with no premise about their widths.
use Rattle.std.specs.Prelude.{ℕ, suc, ◌+◌, ◌<◌, ◌^◌, ◌≡◌, refl, Bool, true, false, cond, eqb, get_or}
use Rattle.std.proofs.Common.{sym, ◌∙◌, subst, ap, ap₂}
use mathlib.Core.List.{List, [], ◌∷◌, ◌++◌, map-append, Memᴰ}
use Rattle.laws.specs.Lists.{NoDup, joined}
use Rattle.laws.specs.Test.{by_test, clash, and_l}
use Rattle.spec.specs.Ids.{Id}
use Rattle.spec.specs.Store.{Store, retained}
use Rattle.spec.specs.Rules.{counts_as_started}
use Rattle.spec.specs.Calls as calls
use Rattle.spec.specs.Calls.{Call, StartArgs, start, reset_all, round, name, resolve, certify, gap_question, commit, outlook, remove, drop, call, is_start, done, flag, anchors, refused}
use Rattle.spec.proofs.Preservation.{is_reset_call}
use Rattle.spec.specs.Demand.{InList, AllInList, History, AllExact, Given, AllArrive, Summed, LinksTold}
use Rattle.models.specs.Digest.{Fit}
use Rattle.commit_answer.specs.Answer.{Tables, view_of, Left, outcome_of, answer_of, Did, by_tables, call_by_lem}
use Rattle.commit_answer.specs.declared.answer.Outcome.{Outcome}
use Rattle.trace.specs.Numbers.{id_at}
use Rattle.trace.specs.Kinds.{Kind, kind_of, known}
use Rattle.trace.specs.Kinds as kind
use Rattle.trace.specs.Head.{lists_in, fits, fields_fit, fields_at, code_at, code_fits}
use Rattle.trace.specs.Fields.{call_by}
use Rattle.trace.proofs.WriteBack.{AllBytes, number-below}
use Rattle.play_calls.specs.Calls.{takes_buffer, model_by}
use Rattle.play.specs.Plays.{Plays, PlaysAt, plays_good}
use Rattle.play.specs.Runs.{Runs, none_yet, one_more}
use Rattle.demand.specs.Code.{Made, Chained, last_tables, calls_of, histories_in, resolutions_in, AllSaid, EachRecord}

-- ---- the calls of a run

-- what the call of a record left: the buffer is the one lent, for a call that takes it
abbrev pub left_by : Kind → Outcome → Tables → List ℕ → Left
left_by k o e v = record { answer = o.answer; tables = e; buffer = cond (takes_buffer k) v [] }

-- the call of a record that was played
abbrev pub made_by : (k : Kind) (f room : List ℕ) (d : Tables) (o : Outcome) (e : Tables) (v : List ℕ) → known k ≡ true → Plays k f room d o e v → Made
made_by k f room d o e v y q = record { what = call_by k f room; before = d; left = left_by k o e v; model = model_by k f room; did = q.makes.made y }

-- a record that isn't refused is of a known kind
pub code_known : (w : Bool) (bs : List ℕ) (p : ℕ) → code_at w bs p ≡ 0 → known (kind_of (get_or bs (p + 5) 0)) ≡ true
unfolding fields_fit fits
code_known w bs p z = and_l _ _ (code_fits bs p w z).1

-- those of all records of a run, in their order
unfoldable pub made_in : {w : Bool} {room bs : List ℕ} {b : Tables} {p : ℕ} {t : List ℕ} {c : Tables} → Runs w room bs b p t c → List Made
made_in none_yet = []
made_in {w} {room} {bs} (one_more {p = p} {c = c} o d v r z q) = made_in r ++ (made_by (kind_of (get_or bs (p + 5) 0)) (fields_at bs p) room c o d v (code_known w bs p z) q ∷ [])

-- P holds of each
abbrev pub Each : {A : Type 0} → (A → Type 0) → List A → Type 0
Each P [] = Unit {0}
Each P (x ∷ xs) = P x × Each P xs

-- "The list holds no reset"
abbrev pub NoReset : List Call → Type 0
NoReset cs = Each (λ (c : Call). is_reset_call c ≡ false) cs

-- the record of bs at p is a commit of the point i with the lists ls
abbrev pub CommitAt : Bool → List ℕ → ℕ → Id → List ℕ → Type 0
CommitAt w bs p i ls = (code_at w bs p ≡ 0) × (kind_of (get_or bs (p + 5) 0) ≡ kind.Commit) × (id_at (fields_at bs p) 0 ≡ i) × (lists_in (fields_at bs p) ≡ ls)

-- ---- digests

-- "a digest has 32 bytes"
abbrev pub DigestFits : Call → Type 0
DigestFits c = elim c [ start a ↦ Unit {0} | reset_all ↦ Unit {0} | round r peers ↦ Unit {0} | name i ↦ i.digest < 256 ^ 32 | resolve i t ↦ Unit {0} | certify i ↦ Unit {0} | gap_question ↦ Unit {0} | commit i l b ↦ Unit {0} | outlook i b ↦ Unit {0} | remove r from b ↦ Unit {0} | drop r ↦ Unit {0} ]

abbrev pub AllFit : List Call → Type 0
AllFit cs = Each DigestFits cs

-- and what each record of such a stretch says
abbrev pub EachOf : (List Given → History → Type 0) → List Made → Type 0
EachOf P made = (xs ys zs : List Made) (s : Made) (a : StartArgs) → made ≡ xs ++ (s ∷ (ys ++ zs)) → s.what ≡ start a → answer_of s.left.answer ≡ done → NoReset (calls_of ys)
    → (h : History) → Memᴰ h (histories_in ys) → P (resolutions_in ys) h
