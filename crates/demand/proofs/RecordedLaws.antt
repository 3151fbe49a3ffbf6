-- Theorems on the definitions of specs/Recorded.
use Rattle.std.specs.Prelude.{ℕ, suc, ◌+◌, ◌<◌, ◌^◌, ◌≡◌, refl, Bool, true, false, cond, eqb, get_or}
use Rattle.std.proofs.Common.{sym, ◌∙◌, subst, ap, ap₂}
use mathlib.Core.List.{List, [], ◌∷◌, ◌++◌, map-append, Memᴰ}
use Rattle.laws.specs.Lists.{NoDup, joined}
use Rattle.laws.specs.Test.{by_test, clash, and_l}
use Rattle.spec.specs.Ids.{Id}
use Rattle.spec.specs.Store.{Store, retained}
use Rattle.spec.specs.Rules.{counts_as_started}
use Rattle.spec.specs.Calls as calls
use Rattle.spec.specs.Calls.{Call, StartArgs, start, reset_all, round, name, resolve, certify, gap_question, commit, outlook, remove, drop, call, is_start, done, flag, anchors, refused}
use Rattle.spec.proofs.Preservation.{is_reset_call}
use Rattle.spec.specs.Demand.{InList, AllInList, History, AllExact, Given, AllArrive, Summed, LinksTold}
use Rattle.models.specs.Digest.{Fit}
use Rattle.commit_answer.specs.Answer.{Tables, view_of, Left, outcome_of, answer_of, Did, by_tables, call_by_lem}
use Rattle.commit_answer.specs.declared.answer.Outcome.{Outcome}
use Rattle.trace.specs.Numbers.{id_at}
use Rattle.trace.specs.Kinds.{Kind, kind_of, known}
use Rattle.trace.specs.Kinds as kind
use Rattle.trace.specs.Head.{lists_in, fits, fields_fit, fields_at, code_at, code_fits}
use Rattle.trace.specs.Fields.{call_by}
use Rattle.trace.proofs.WriteBack.{AllBytes, number-below}
use Rattle.play_calls.specs.Calls.{takes_buffer, model_by}
use Rattle.play.specs.Plays.{Plays, PlaysAt, plays_good}
use Rattle.play.specs.Runs.{Runs, none_yet, one_more}
use Rattle.demand.specs.Code.{Made, Chained, last_tables, calls_of, histories_in, resolutions_in, AllSaid, EachRecord}
use Rattle.demand.proofs.CodeLaws.{demand_3_of_code, sums_of_code, links_of_code}
use Rattle.demand.specs.Recorded.{left_by, made_in, Each, NoReset, CommitAt, DigestFits, AllFit, EachOf}

-- ---- what holds of each

each_append : {A : Type 0} (P : A → Type 0) (xs ys : List A) → Each P xs → Each P ys → Each P (xs ++ ys)
each_append P [] ys h g = g
each_append P (x ∷ xs) ys (e, h) g = (e, each_append P xs ys h g)

each_left : {A : Type 0} (P : A → Type 0) (xs ys : List A) → Each P (xs ++ ys) → Each P xs
each_left P [] ys h = tt
each_left P (x ∷ xs) ys (e, h) = (e, each_left P xs ys h)

each_right : {A : Type 0} (P : A → Type 0) (xs ys : List A) → Each P (xs ++ ys) → Each P ys
each_right P [] ys h = h
each_right P (x ∷ xs) ys (e, h) = each_right P xs ys h

-- ---- one call after another

pub calls_append : (xs ys : List Made) → calls_of (xs ++ ys) ≡ calls_of xs ++ calls_of ys
calls_append xs ys = map-append (λ (m : Made). m.what) xs ys

chained_append : (d : Tables) (xs ys : List Made) → Chained d xs → Chained (last_tables d xs) ys → Chained d (xs ++ ys)
unfolding last_tables
chained_append d [] ys h g = g
chained_append d (x ∷ xs) ys (e, h) g = (e, chained_append x.left.tables xs ys h g)

chained_left : (d : Tables) (xs ys : List Made) → Chained d (xs ++ ys) → Chained d xs
chained_left d [] ys h = tt
chained_left d (x ∷ xs) ys (e, h) = (e, chained_left x.left.tables xs ys h)

chained_right : (d : Tables) (xs ys : List Made) → Chained d (xs ++ ys) → Chained (last_tables d xs) ys
unfolding last_tables
chained_right d [] ys h = h
chained_right d (x ∷ xs) ys (e, h) = chained_right x.left.tables xs ys h

last_append : (d : Tables) (xs ys : List Made) → last_tables d (xs ++ ys) ≡ last_tables (last_tables d xs) ys
unfolding last_tables
last_append d [] ys = refl
last_append d (x ∷ xs) ys = last_append x.left.tables xs ys

chain_more : (b c : Tables) (ms : List Made) (m : Made) → Chained b ms × (last_tables b ms ≡ c) → m.before ≡ c → Chained b (ms ++ (m ∷ [])) × (last_tables b (ms ++ (m ∷ [])) ≡ m.left.tables)
unfolding last_tables
chain_more b c ms m (h, g) e = (chained_append b ms (m ∷ []) h (e ∙ sym g, tt), last_append b ms (m ∷ []))

-- the calls of a run follow one another, up to its end
pub run_chained : {w : Bool} {room bs : List ℕ} {b : Tables} {p : ℕ} {t : List ℕ} {c : Tables} (r : Runs w room bs b p t c) → Chained b (made_in r) × (last_tables b (made_in r) ≡ c)
unfolding made_in last_tables
run_chained none_yet = (tt, refl)
run_chained {b = b} (one_more {c = c} o d v r z q) = chain_more b c (made_in r) _ (run_chained r) refl

pub bytes_fit : (k : Kind) (f room : List ℕ) → AllBytes f → DigestFits (call_by k f room)
unfolding call_by id_at
bytes_fit kind.Start f room h = tt
bytes_fit kind.Round f room h = tt
bytes_fit kind.Name f room h = number-below f 5 32 h
bytes_fit kind.Resolve f room h = tt
bytes_fit kind.Certify f room h = tt
bytes_fit kind.Commit f room h = tt
bytes_fit kind.Remove f room h = tt
bytes_fit kind.Drop f room h = tt
bytes_fit kind.Gap f room h = tt
bytes_fit kind.Reset f room h = tt
bytes_fit kind.Outlook f room h = tt
bytes_fit kind.Broken f room h = tt

-- the fields of a run are bytes
run_fits : {w : Bool} {room bs : List ℕ} {b : Tables} {p : ℕ} {t : List ℕ} {c : Tables} (r : Runs w room bs b p t c) → AllFit (calls_of (made_in r))
unfolding made_in
run_fits none_yet = tt
run_fits {room = room} {bs = bs} (one_more {p = p} o d v r z q) =
    subst AllFit (sym (calls_append (made_in r) _)) (each_append DigestFits (calls_of (made_in r)) _ (run_fits r) (bytes_fit (kind_of (get_or bs (p + 5) 0)) (fields_at bs p) room q.bytes, tt))

in_list : (c : Call) → DigestFits c → is_reset_call c ≡ false → InList c
unfolding is_reset_call
in_list (start a) f n = tt
in_list reset_all f n = absurd (clash refl n)
in_list (round r peers) f n = tt
in_list (name i) f n = f
in_list (resolve i t) f n = tt
in_list (certify i) f n = tt
in_list gap_question f n = tt
in_list (commit i l b) f n = tt
in_list (outlook i b) f n = tt
in_list (remove r s b) f n = tt
in_list (drop r) f n = tt

all_in : (cs : List Call) → AllFit cs → NoReset cs → AllInList cs
all_in [] f n = tt
all_in (c ∷ cs) (f, fs) (n, ns) = (in_list c f n, all_in cs fs ns)

-- a stretch of calls, up to a reset
pub part_in : (xs ys zs : List Call) (c : Call) → AllFit (xs ++ (c ∷ (ys ++ zs))) → NoReset ys → AllInList ys
part_in xs ys zs c h n = all_in ys (each_left DigestFits ys zs (each_right DigestFits xs (c ∷ (ys ++ zs)) h).1) n

-- ---- commits

-- the call of a commit's record
commit_did : (k : Kind) (f room : List ℕ) (d : Tables) (o : Outcome) (e : Tables) (v : List ℕ) (i : Id) (ls : List ℕ) → k ≡ kind.Commit → id_at f 0 ≡ i → lists_in f ≡ ls → Plays k f room d o e v
    → Did (commit i ls room) (model_by kind.Commit f room) d (record { answer = o.answer; tables = e; buffer = v })
unfolding call_by
commit_did k f room d o e v i ls g h y q =
    subst (λ (c : Call). Did c (model_by kind.Commit f room) d (record { answer = o.answer; tables = e; buffer = v })) (ap₂ (λ (j : Id) (l : List ℕ). commit j l room) h y)
    (subst (λ (j : Kind). known j ≡ true → Did (call_by j f room) (model_by j f room) d (left_by j o e v)) g q.makes.made refl)

-- as one that was made
committed : (w : Bool) (room bs : List ℕ) (p : ℕ) (d e : Tables) (v : List ℕ) (o : Outcome) (i : Id) (ls : List ℕ) → CommitAt w bs p i ls → PlaysAt w room bs p d o e v → Made
committed w room bs p d e v o i ls (z, g, h, y) q =
    record { what = commit i ls room; before = d; left = _; model = _; did = commit_did _ (fields_at bs p) room d o e v i ls g h y (plays_good w room bs p d e v o z q) }

-- whether anchors are handed out
hands_out : calls.Answer → Bool
hands_out done = false
hands_out (flag b) = false
hands_out (anchors n) = true
hands_out (refused w n) = false

-- by tables that count as started alone
counts_is : (s : Store) (i : Id) (ls b : List ℕ) (n : ℕ) → (call s (commit i ls b)).answer ≡ anchors n → counts_as_started s ≡ true
unfolding hands_out by_tables is_start
counts_is s i ls b n e =
    by_test (counts_as_started s) (λ t. t)
    (λ f. absurd (clash (ap hands_out e) (ap (λ (o : calls.Outcome). hands_out o.answer) (call_by_lem s (commit i ls b) refl ∙ ap (λ (y : Bool). by_tables y s (commit i ls b)) f))))

-- the words of tables fit 64 bits
abbrev Wide : Tables → Type 0
Wide d = Fit d.keys × Fit d.links

-- of two commits that were made, one after late calls and one before them
later : (d : Tables) → Wide d → (i : Id) (ls b : List ℕ) (n : ℕ) (m l : Made) (ms : List Made) → m.before ≡ d → m.what ≡ commit i ls b → answer_of m.left.answer ≡ anchors (suc n)
    → Chained d ms → AllArrive (view_of d) (calls_of ms) → l.before ≡ last_tables d ms → l.what ≡ commit i ls b → (l.left.answer ≡ m.left.answer) × (l.left.buffer ≡ m.left.buffer)
unfolding outcome_of
later d (fk, fl) i ls b n m l ms m0 m1 a r v l0 l1 =
    let g : (call (view_of d) (commit i ls b)).answer ≡ anchors (suc n) = ap₂ (λ (s : Store) (c : Call). (call s c).answer) (ap view_of (sym m0)) (sym m1) ∙ (sym (ap (λ (o : calls.Outcome). o.answer) m.did.answer) ∙ a) in
    demand_3_of_code.1 d fk fl (counts_is (view_of d) i ls b (suc n) g) i ls b n m l ms m0 m1 a r v l0 l1

-- ---- stretches

-- so it is before each call of a run
abbrev WideBefore : Made → Type 0
WideBefore m = Wide m.before

run_wide : {w : Bool} {room bs : List ℕ} {b : Tables} {p : ℕ} {t : List ℕ} {c : Tables} (r : Runs w room bs b p t c) → Each WideBefore (made_in r)
unfolding made_in
run_wide none_yet = tt
run_wide (one_more o d v r z q) = each_append WideBefore (made_in r) _ (run_wide r) (q.words, tt)

-- and where a stretch begins
wide-here : (d : Tables) (xs ys : List Made) (m : Made) → Chained d (xs ++ (m ∷ ys)) → Each WideBefore (xs ++ (m ∷ ys)) → Wide d
wide-here d [] ys m (e, h) (k, g) = subst Wide e k
wide-here d (x ∷ xs) ys m (e, h) (k, g) = subst Wide e k

-- a stretch of the calls of a run, up to a reset
stretch : {w : Bool} {room bs : List ℕ} {d : Tables} {p : ℕ} {t : List ℕ} {e : Tables} (r : Runs w room bs d p t e) (xs ys zs : List Made) (s : Made) → made_in r ≡ xs ++ (s ∷ (ys ++ zs)) → NoReset (calls_of ys)
    → Chained s.left.tables ys × AllInList (calls_of ys)
stretch {d = d} r xs ys zs s g n =
    let h : Chained d (xs ++ (s ∷ (ys ++ zs))) = subst (λ (ms : List Made). Chained d ms) g (run_chained r).0 in
    let k : calls_of (made_in r) ≡ calls_of xs ++ (s.what ∷ (calls_of ys ++ calls_of zs)) = ap calls_of g ∙ (calls_append xs (s ∷ (ys ++ zs)) ∙ ap (λ (cs : List Call). calls_of xs ++ (s.what ∷ cs)) (calls_append ys zs)) in
    (chained_left s.left.tables ys zs (chained_right d xs (s ∷ (ys ++ zs)) h).1, part_in (calls_of xs) (calls_of ys) (calls_of zs) s.what (subst AllFit k (run_fits r)) n)

-- ---- the theorems

-- each stretch of the calls of a run, from a start that is done up to a reset: demand 3's first half
pub first : {w : Bool} {room bs : List ℕ} {d : Tables} {p : ℕ} {t : List ℕ} {e : Tables} (r : Runs w room bs d p t e) (xs ys zs : List Made) (s : Made) (a : StartArgs) → made_in r ≡ xs ++ (s ∷ (ys ++ zs))
    → s.what ≡ start a → answer_of s.left.answer ≡ done → NoReset (calls_of ys)
    → NoDup (joined (λ (h : History). h.ids) (histories_in ys)) × AllExact (resolutions_in ys) [] (histories_in ys) × AllSaid ys × ((x : ℕ) → retained (view_of s.left.tables) x ≡ eqb x a.bottom)
first r xs ys zs s a g f k n = let (h, i) = stretch r xs ys zs s g n in demand_3_of_code.0 s a ys f k h i

each : {w : Bool} {room bs : List ℕ} {d : Tables} {p : ℕ} {t : List ℕ} {e : Tables} (P : List Given → History → Type 0) → EachRecord P → (r : Runs w room bs d p t e) → EachOf P (made_in r)
each P follow r xs ys zs s a g f k n = let (h, i) = stretch r xs ys zs s g n in follow s a ys f k h i

-- its sums (02, N2): "Sums follow from the ids in the record and from what was resolved."
pub sums : {w : Bool} {room bs : List ℕ} {d : Tables} {p : ℕ} {t : List ℕ} {e : Tables} (r : Runs w room bs d p t e) → EachOf Summed (made_in r)
sums r = each Summed sums_of_code r

-- the links behind its points (02, N7)
pub links : {w : Bool} {room bs : List ℕ} {d : Tables} {p : ℕ} {t : List ℕ} {e : Tables} (r : Runs w room bs d p t e) → EachOf LinksTold (made_in r)
links r = each LinksTold links_of_code r

-- a commit that is played after a run of late calls, and the same one, with the same lists, played before it: demand 3's second half
pub second : {w : Bool} {room bs : List ℕ} {d : Tables} {p : ℕ} {t : List ℕ} {e : Tables} (r : Runs w room bs d p t e) → AllArrive (view_of d) (calls_of (made_in r))
    → (i : Id) (n : ℕ) (ls bs₁ bs₂ : List ℕ) (p₁ p₂ : ℕ) (o₁ o₂ : Outcome) (d₁ d₂ : Tables) (v₁ v₂ : List ℕ)
    → CommitAt w bs₁ p₁ i ls → PlaysAt w room bs₁ p₁ d o₁ d₁ v₁ → CommitAt w bs₂ p₂ i ls → PlaysAt w room bs₂ p₂ e o₂ d₂ v₂
    → answer_of o₁.answer ≡ anchors (suc n) → (o₂.answer ≡ o₁.answer) × (v₂ ≡ v₁)
unfolding committed
second {w} {room} {d = d} {e = e} r arrive i n ls bs₁ bs₂ p₁ p₂ o₁ o₂ d₁ d₂ v₁ v₂ c₁ q₁ c₂ q₂ a =
    let h = run_chained r in
    later d q₁.words i ls room n (committed w room bs₁ p₁ d d₁ v₁ o₁ i ls c₁ q₁) (committed w room bs₂ p₂ e d₂ v₂ o₂ i ls c₂ q₂) (made_in r) refl refl a h.0 arrive (sym h.1) refl

-- the same within one run: a commit l of it after the late calls ys, and the same one, m, made where they begin
pub second_within : {w : Bool} {room bs : List ℕ} {d : Tables} {p : ℕ} {t : List ℕ} {e : Tables} (r : Runs w room bs d p t e) (xs ys zs : List Made) (l m : Made) → made_in r ≡ xs ++ (ys ++ (l ∷ zs))
    → AllArrive (view_of (last_tables d xs)) (calls_of ys) → (i : Id) (n : ℕ) (ls : List ℕ) → l.what ≡ commit i ls room → m.before ≡ last_tables d xs → m.what ≡ commit i ls room
    → answer_of m.left.answer ≡ anchors (suc n) → (l.left.answer ≡ m.left.answer) × (l.left.buffer ≡ m.left.buffer)
second_within {room = room} {d = d} r xs ys zs l m g arrive i n ls f m0 m1 a =
    let c : Tables = last_tables d xs in
    let h : Chained c (ys ++ (l ∷ zs)) = chained_right d xs (ys ++ (l ∷ zs)) (subst (λ (ms : List Made). Chained d ms) g (run_chained r).0) in
    let k : Each WideBefore (ys ++ (l ∷ zs)) = each_right WideBefore xs (ys ++ (l ∷ zs)) (subst (λ (ms : List Made). Each WideBefore ms) g (run_wide r)) in
    later c (wide-here c ys zs l h k) i ls room n m l ys m0 m1 a (chained_left c ys (l ∷ zs) h) arrive (chained_right c ys (l ∷ zs) h).0 f
