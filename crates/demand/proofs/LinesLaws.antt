-- Theorems on the definitions of specs/Lines.
use Rattle.std.specs.Prelude.{ℕ, ◌+◌, ◌≡◌, refl, Bool, true, false, cond, List, [], ◌∷◌, ◌++◌, eqb, get_or}
use Rattle.std.proofs.Common.{sym, ◌∙◌, ap, ap₂, append_assoc, append-nil, ne_eqb}
use Rattle.laws.specs.Lists.{joined}
use Rattle.laws.specs.Test.{same_or}
use Rattle.spec.specs.Store.{Store}
use Rattle.spec.specs.Calls as calls
use Rattle.spec.specs.Calls.{Call, call}
use Rattle.spec.specs.Demand.{after}
use Rattle.commit_answer.specs.Answer.{Tables, view_of, outcome_of, answer_of}
use Rattle.trace.specs.Kinds.{Start, Round, Name, Resolve, Certify, Remove, Drop, Gap, Reset, Outlook, Broken, kind_of}
use Rattle.trace.specs.Head.{fields_at}
use Rattle.trace.specs.Fields.{call_by}
use Rattle.trace.specs.Codes.{Trace, trace_in}
use Rattle.lines.specs.Lines.{Line, lines_of, last_line, end_lines, lines_from, text, text-append, lines_at, said_anchors, said_lines, said_text}
use Rattle.lines.specs.Held.{is_commit, said_is}
use Rattle.play_calls.specs.Calls.{takes_buffer}
use Rattle.play.specs.Runs.{Runs, none_yet, one_more}
use Rattle.demand.specs.Code.{Made, outcome, calls_of}
use Rattle.demand.specs.Recorded.{made_in, made_by, code_known}
use Rattle.demand.proofs.RecordedLaws.{calls_append}
use Rattle.demand.specs.Played.{Ended}
use Rattle.demand.proofs.PlayedLaws.{whole_read, run_after, made_done}
use Rattle.demand.specs.Lines.{output, output_text}

-- ---- one call

-- kind 6 alone is a commit
others : (a b c d e f g h i j : Bool) (fs room : List ℕ)
    → is_commit (call_by (cond a Start (cond b Round (cond c Name (cond d Resolve (cond e Certify (cond f Remove (cond g Drop (cond h Gap (cond i Reset (cond j Outlook Broken)))))))))) fs room) ≡ false
unfolding is_commit call_by
others true b c d e f g h i j fs room = refl
others false true c d e f g h i j fs room = refl
others false false true d e f g h i j fs room = refl
others false false false true e f g h i j fs room = refl
others false false false false true f g h i j fs room = refl
others false false false false false true g h i j fs room = refl
others false false false false false false true h i j fs room = refl
others false false false false false false false true i j fs room = refl
others false false false false false false false false true j fs room = refl
others false false false false false false false false false true fs room = refl
others false false false false false false false false false false fs room = refl

commit_is : (k : ℕ) (fs room : List ℕ) → eqb k 6 ≡ is_commit (call_by (kind_of k) fs room)
unfolding is_commit call_by kind_of
commit_is k fs room = same_or k 6 (λ e. rw e refl) (λ n. rw (ne_eqb k 6 n) (sym (others (eqb k 1) (eqb k 2) (eqb k 3) (eqb k 4) (eqb k 5) (eqb k 7) (eqb k 8) (eqb k 9) (eqb k 10) (eqb k 11) fs room)))

-- no other call's buffer is read
buffer_is : (k : ℕ) (a : calls.Answer) (v : List ℕ) → said_lines k a (cond (takes_buffer (kind_of k)) v []) ≡ said_lines k a v
unfolding kind_of said_lines said_anchors lines_at
buffer_is k a v = same_or k 6 (λ e. rw e refl) (λ n. rw (ne_eqb k 6 n) refl)

-- what was said of a call that was made are its lines
made_lines : (k : ℕ) (m : Made) (v : List ℕ) → eqb k 6 ≡ is_commit m.what → m.left.buffer ≡ cond (takes_buffer (kind_of k)) v []
    → said_text k (answer_of m.left.answer) v ≡ text (lines_of (view_of m.before) m.what (call (view_of m.before) m.what))
unfolding said_text outcome_of
made_lines k m v e f =
    ap text (sym (buffer_is k (answer_of m.left.answer) v) ∙ (ap (said_lines k (answer_of m.left.answer)) (sym f)
    ∙ (sym (said_is (view_of m.before) m.what (outcome m) k e) ∙ ap (lines_of (view_of m.before) m.what) (made_done m))))

-- ---- a run

lines_last : (s : Store) (cs : List Call) (c : Call) → lines_from s (cs ++ (c ∷ [])) ≡ lines_from s cs ++ lines_of (after s cs) c (call (after s cs) c)
unfolding lines_from after
lines_last s [] c = append-nil (lines_of s c (call s c))
lines_last s (x ∷ cs) c =
    ap (λ (l : List Line). lines_of s x (call s x) ++ l) (lines_last (call s x).store cs c)
    ∙ sym (append_assoc (lines_of s x (call s x)) (lines_from (call s x).store cs) _)

text_last : (s : Store) (ms : List Made) (m : Made) (t u : List ℕ) → view_of m.before ≡ after s (calls_of ms) → t ≡ text (lines_from s (calls_of ms))
    → u ≡ text (lines_of (view_of m.before) m.what (call (view_of m.before) m.what)) → t ++ u ≡ text (lines_from s (calls_of (ms ++ (m ∷ []))))
text_last s ms m t u e f g =
    ap₂ ◌++◌ f (g ∙ ap (λ (x : Store). text (lines_of x m.what (call x m.what))) e)
    ∙ (sym (text-append (lines_from s (calls_of ms)) _) ∙ ap text (sym (lines_last s (calls_of ms) m.what) ∙ ap (lines_from s) (sym (calls_append ms (m ∷ [])))))

-- "What is played equals the same calls made directly", byte by byte of its lines
pub run_lines : {w : Bool} {room bs : List ℕ} {b : Tables} {p : ℕ} {t : List ℕ} {c : Tables} (r : Runs w room bs b p t c) → t ≡ text (lines_from (view_of b) (calls_of (made_in r)))
unfolding made_in text lines_from joined
run_lines none_yet = refl
run_lines {w} {room} {bs} {b} (one_more {p = p} {t = t} {c = c} o d v r z q) =
    let k : ℕ = get_or bs (p + 5) 0 in
    let m : Made = made_by (kind_of k) (fields_at bs p) room c o d v (code_known w bs p z) q in
    text_last (view_of b) (made_in r) m t _ (run_after r) (run_lines r) (made_lines k m v (commit_is k (fields_at bs p) room) refl)

-- of the whole trace: what a run that has come to its end has said, then the refusal of its last record and the last line, is the trace's output
pub whole_text : {room bs : List ℕ} {b : Tables} {p : ℕ} {t : List ℕ} {c : Tables} (r : Runs false room bs b p t c) (code : ℕ) → Ended bs p code
    → t ++ text (end_lines code ++ (last_line (view_of c) ∷ [])) ≡ output_text (view_of b) (trace_in room bs)
unfolding output_text output
whole_text {b = b} r code e =
    ap₂ (λ (x : List ℕ) (s : Store). x ++ text (end_lines code ++ (last_line s ∷ []))) (run_lines r) (run_after r)
    ∙ (sym (text-append (lines_from (view_of b) (calls_of (made_in r))) _) ∙ ap (output_text (view_of b)) (sym (whole_read r code e)))
