-- Theorems on the definitions of specs/Played.
use Rattle.std.specs.Prelude.{ℕ, zero, suc, ◌+◌, ◌-◌, ◌<◌, ◌≤◌, ◌≡◌, refl, Bool, true, false, not, ◌&&◌, cond, ◌⊎◌, eqb, length, get_or}
use Rattle.std.proofs.Common.{sym, ◌∙◌, subst, ap, inl, inr, arith, zero-add, length-append, le-leb}
use mathlib.Core.List.{List, [], ◌∷◌, ◌++◌, Memᴰ}
use Rattle.std.proofs.lemmas.Bool.{lt-leb}
use Rattle.laws.specs.Lists.{NoDup, joined}
use Rattle.laws.specs.Test.{le_or}
use Rattle.spec.specs.Store.{Store, retained}
use Rattle.spec.specs.Chain.{Out, bad, good, refuse}
use Rattle.spec.specs.Calls.{Call, StartArgs, start, call, done}
use Rattle.spec.specs.Demand.{AllInList, after, History, histories, resolutions, Given, AllExact, AllAsSaid, Summed, LinksTold}
use Rattle.spec.proofs.Demand3.{demand_3, sums_follow}
use Rattle.spec.proofs.LinksFollow.{links_follow}
use Rattle.commit_answer.specs.Answer.{Tables, view_of}
use Rattle.trace.specs.Kinds.{kind_of, kind_ok, kind_known}
use Rattle.trace.specs.Head.{fields_fit, whole_at, rest_at, fields_at, version_ok, kind_code, code_at, by_zero, code_whole, whole_elim}
use Rattle.trace.specs.Fields.{call_by}
use Rattle.trace.specs.Codes.{Found, read_at, Trace, more, go_on, trace_from, trace_in}
use Rattle.trace.proofs.CodeAt.{code_of, code_is}
use Rattle.trace.proofs.ReadBack.{trace_more, trace_end}
use Rattle.trace.proofs.WriteBack.{AllBytes, bytes-part}
use Rattle.play.specs.Runs.{Runs, none_yet, one_more}
use Rattle.demand.specs.Code.{Made, outcome, calls_of}
use Rattle.demand.proofs.CodeLaws.{last_is}
use Rattle.demand.specs.Recorded.{made_in, NoReset, AllFit}
use Rattle.demand.proofs.RecordedLaws.{run_chained, calls_append, bytes_fit, part_in}
use Rattle.demand.specs.Played.{call_at, prepend, Ended, EachTraced}

reads : (a b c d : Bool) (f : Found) → ◌≡◌ {A = ℕ} (cond a (cond b (cond c (cond d 0 26) 27) 27) 26) 0 → refuse (not a) 26 (refuse (not (b && c)) 27 (refuse (not d) 26 (good f))) ≡ good f
unfolding refuse
reads false b c d f e = absurd (omega arith)
reads true false c d f e = absurd (omega arith)
reads true true false d f e = absurd (omega arith)
reads true true true false f e = absurd (omega arith)
reads true true true true f e = refl

-- one that isn't refused is read as its call
read_good : (room bs : List ℕ) (p : ℕ) → code_at false bs p ≡ 0 → read_at room bs p ≡ good (record { what = call_at room bs p; end = p + 4 + rest_at bs p })
unfolding read_at code_at kind_code kind_known
read_good room bs p z = reads (whole_at bs p) (version_ok (get_or bs (p + 4) 0) (get_or bs (p + 5) 0)) (kind_ok (get_or bs (p + 5) 0)) (fields_fit (get_or bs (p + 5) 0) (fields_at bs p)) _ z

-- ---- a trace

-- no byte is left
trace_none : (n : ℕ) (room bs : List ℕ) (p : ℕ) → length bs ≤ p → trace_from n room bs p ≡ record { calls = []; ended = 0 }
trace_none n room bs p l = trace_end n room bs p (le-leb (length bs) p l)

-- a record is refused
stops : (o : Out Found) (next : Found → Trace) → (code_of o ≡ 0 → ⊥) → go_on false o next ≡ record { calls = []; ended = code_of o }
unfolding go_on code_of
stops (bad r) next n = refl
stops (good f) next n = absurd (n refl)

trace_bad : (n : ℕ) (room bs : List ℕ) (p : ℕ) → p < length bs → (code_at false bs p ≡ 0 → ⊥) → trace_from (suc n) room bs p ≡ record { calls = []; ended = code_at false bs p }
unfolding trace_from
trace_bad n room bs p l h =
    let c = code_is room bs p in
    let next : Found → Trace = λ (f : Found). more f.what (trace_from n room bs f.end) in
    ap (λ (b : Bool). go_on b (read_at room bs p) next) (lt-leb (length bs) p l) ∙ (stops (read_at room bs p) next (λ z. h (sym c ∙ z)) ∙ ap (λ (k : ℕ). record { calls = []; ended = k }) c)

-- its call is the next
trace_next : (n : ℕ) (room bs : List ℕ) (p : ℕ) → code_at false bs p ≡ 0 → trace_from (suc n) room bs p ≡ more (call_at room bs p) (trace_from n room bs (p + 4 + rest_at bs p))
trace_next n room bs p z =
    let (i, j, s) = whole_elim bs p (code_whole bs p false z) in
    trace_more n room bs p _ (lt-leb (length bs) p (omega arith)) (read_good room bs p z)

prepend_last : (cs : List Call) (c : Call) (t : Trace) → prepend (cs ++ (c ∷ [])) t ≡ prepend cs (more c t)
unfolding prepend
prepend_last [] c t = refl
prepend_last (x ∷ cs) c t = ap (more x) (prepend_last cs c t)

prepend_end : (cs : List Call) (n : ℕ) → prepend cs (record { calls = []; ended = n }) ≡ record { calls = cs; ended = n }
unfolding prepend more
prepend_end [] n = refl
prepend_end (c ∷ cs) n = ap (more c) (prepend_end cs n)

-- ---- a run

-- the bytes are read as its calls, and then as what follows it
pub run_read : {room bs : List ℕ} {b : Tables} {p : ℕ} {t : List ℕ} {c : Tables} (r : Runs false room bs b p t c) (n : ℕ)
    → trace_from (length (calls_of (made_in r)) + n) room bs 0 ≡ prepend (calls_of (made_in r)) (trace_from n room bs p)
unfolding made_in prepend
run_read {room} {bs} none_yet n = ap (λ (m : ℕ). trace_from m room bs 0) (zero-add n)
run_read {room} {bs} (one_more {p = x} o d v r z q) n =
    let cs : List Call = calls_of (made_in r) in
    let y : Call = call_at room bs x in
    let m = calls_append (made_in r) _ in
    ap (λ (ds : List Call). trace_from (length ds + n) room bs 0) m
    ∙ (ap (λ (h : ℕ). trace_from h room bs 0) (more-one (length (cs ++ (y ∷ []))) (length cs) n (length-append cs (y ∷ [])))
    ∙ (run_read r (suc n)
    ∙ (ap (prepend cs) (trace_next n room bs x z)
    ∙ (sym (prepend_last cs y (trace_from n room bs (x + 4 + rest_at bs x))) ∙ ap (λ (ds : List Call). prepend ds (trace_from n room bs (x + 4 + rest_at bs x))) (sym m)))))
  where
    more-one : (i j n : ℕ) → i ≡ j + 1 → i + n ≡ j + suc n
    more-one i j n e = omega arith

-- each of its records has bytes, and they are all there
run_long : {w : Bool} {room bs : List ℕ} {b : Tables} {p : ℕ} {t : List ℕ} {c : Tables} (r : Runs w room bs b p t c) → (length (calls_of (made_in r)) ≤ p) × (p ≤ length bs)
unfolding made_in
run_long none_yet = (omega arith, omega arith)
run_long {w} {bs = bs} (one_more {p = x} o d v r z q) = (one_longer (made_in r) _ x (rest_at bs x) (run_long r).0, (whole_elim bs x (code_whole bs x w z)).2)
  where
    one_longer : (ms : List Made) (m : Made) (x n : ℕ) → length (calls_of ms) ≤ x → length (calls_of (ms ++ (m ∷ []))) ≤ x + 4 + n
    one_longer ms m x n l = omega (arith, ap length (calls_append ms (m ∷ [])) ∙ length-append (calls_of ms) (m.what ∷ []))

rest_read : (n : ℕ) (room bs : List ℕ) (p code : ℕ) → length bs ≤ n + p → Ended bs p code → trace_from n room bs p ≡ record { calls = []; ended = code }
rest_read n room bs p code l (inl (z, e)) = trace_none n room bs p (omega arith) ∙ ap (λ (k : ℕ). record { calls = []; ended = k }) (sym z)
rest_read zero room bs p code l (inr (h, k, e)) = absurd (omega arith)
rest_read (suc n) room bs p code l (inr (h, k, e)) = trace_bad n room bs p k (λ z. h (e ∙ z)) ∙ ap (λ (i : ℕ). record { calls = []; ended = i }) (sym e)

-- "What is played equals the same calls made directly": the whole bytes are read as the calls of a run that has come to its end
pub whole_read : {room bs : List ℕ} {b : Tables} {p : ℕ} {t : List ℕ} {c : Tables} (r : Runs false room bs b p t c) (code : ℕ) → Ended bs p code
    → trace_in room bs ≡ record { calls = calls_of (made_in r); ended = code }
unfolding trace_in
whole_read {room} {bs} {p = p} r code e =
    let (i, j) = run_long r in
    let cs : List Call = calls_of (made_in r) in
    let n : ℕ = length bs - length cs in
    ap (λ (m : ℕ). trace_from m room bs 0) (parts (length cs) (length bs) (omega arith))
    ∙ (run_read r n ∙ (ap (prepend cs) (rest_read n room bs p code (omega arith) e) ∙ prepend_end cs code))
  where
    parts : (i m : ℕ) → i ≤ m → m ≡ i + (m - i)
    parts i m l = omega arith

-- the store after a run is the one after its calls
pub run_after : {w : Bool} {room bs : List ℕ} {b : Tables} {p : ℕ} {t : List ℕ} {c : Tables} (r : Runs w room bs b p t c) → view_of c ≡ after (view_of b) (calls_of (made_in r))
run_after {b = b} r = let (h, g) = run_chained r in ap view_of (sym g) ∙ last_is (view_of b) b (made_in r) refl h

-- and each answer and buffer is that of the call
pub made_done : (m : Made) → outcome m ≡ call (view_of m.before) m.what
made_done m = m.did.answer

-- ---- demand 3 of a trace, whatever bytes it is and whatever store it begins with

trace_fits : (n : ℕ) (room bs : List ℕ) (p : ℕ) → AllBytes bs → AllFit (trace_from n room bs p).calls
unfolding trace_from more
trace_fits zero room bs p h = tt
trace_fits (suc n) room bs p h =
    le_or (length bs) p
    (λ l. subst (λ (t : Trace). AllFit t.calls) (sym (trace_none (suc n) room bs p l)) tt)
    (λ l. by_zero (code_at false bs p)
    (λ z. subst (λ (t : Trace). AllFit t.calls) (sym (trace_next n room bs p z)) (bytes_fit (kind_of (get_or bs (p + 5) 0)) (fields_at bs p) room (bytes-part bs (p + 6) (p + 4 + rest_at bs p) h), trace_fits n room bs (p + 4 + rest_at bs p) h))
    (λ z. subst (λ (t : Trace). AllFit t.calls) (sym (trace_bad n room bs p l z)) tt))

-- a stretch of its calls, up to a reset
trace_part : (room bs : List ℕ) → AllBytes bs → (xs ys zs : List Call) (c : Call) → (trace_in room bs).calls ≡ xs ++ (c ∷ (ys ++ zs)) → NoReset ys → AllInList ys
unfolding trace_in
trace_part room bs h xs ys zs c e n = part_in xs ys zs c (subst AllFit e (trace_fits (length bs) room bs 0 h)) n

-- each stretch of its calls, from a start that is done up to a reset
pub trace_first : (room bs : List ℕ) → AllBytes bs → (s : Store) (xs ys zs : List Call) (a : StartArgs) → (trace_in room bs).calls ≡ xs ++ (start a ∷ (ys ++ zs)) → (call (after s xs) (start a)).answer ≡ done → NoReset ys
    → let t = (call (after s xs) (start a)).store in NoDup (joined (λ (h : History). h.ids) (histories t ys)) × AllExact (resolutions t ys) [] (histories t ys) × AllAsSaid t ys × ((r : ℕ) → retained t r ≡ eqb r a.bottom)
trace_first room bs h s xs ys zs a e f n = demand_3.0 (after s xs) a ys f (trace_part room bs h xs ys zs (start a) e n)

-- its sums (02, N2)
pub trace_sums : EachTraced Summed
trace_sums room bs h s xs ys zs a e f n = sums_follow (after s xs) a ys f (trace_part room bs h xs ys zs (start a) e n)

-- the links behind its points (02, N7)
pub trace_links : EachTraced LinksTold
trace_links room bs h s xs ys zs a e f n = links_follow (after s xs) a ys f (trace_part room bs h xs ys zs (start a) e n)
