-- Demand 3: each call of a list does as said: what a commit writes, that a start is refused, which rounds are retained.
use Rattle.std.specs.Prelude.{ℕ, suc, ◌+◌, ◌-◌, ◌≤◌, max, min, ◌≡◌, refl, Bool, true, false, not, ◌&&◌, ◌||◌, List, [], ◌∷◌, ◌++◌, map, eqb, leb, ltb, length}
use Rattle.std.proofs.Common.{sym, ◌∙◌, ap, ap₂, inl, inr, true≢false, leb-true, leb-false, le-leb, ltb-false, lt-ltb, le-ltb, eq-eqb, ne_eqb, arith, zero-add}
use Rattle.std.proofs.Math.Path.{subst}
use Rattle.std.proofs.Math.Logic.{⊎_elim}
use Rattle.std.proofs.Math.Option.{Option, none, some}
use Rattle.std.proofs.lemmas.Bool.{lt-leb}
use Rattle.std.proofs.Math.Nat.{sub-zero}
use Rattle.laws.specs.Test.{same_or, le_or, and_no_r, or_none}
use Rattle.laws.specs.Bytes.{written, written-length}
use Rattle.spec.specs.Ids.{Id}
use Rattle.spec.specs.Store.{Resolution, Progress, Memory, Store, id_at, retained, with_points, with_numbers, with_memory}
use Rattle.spec.specs.Rules.{last_round}
use Rattle.spec.specs.Chain.{Refusal, Out, bad, good, refuse, EnqueuedAnchor, anchors_of}
use Rattle.spec.specs.History.{after_lists, record_bytes, test_anchor, set_committed, dequeued, Finished, commit_all}
use Rattle.spec.specs.Inspect.{inspected, memory_after, remove_bytes}
use Rattle.spec.specs.Calls.{done, anchors, refused, Outcome, finish, StartArgs, start_ok, memory_kept, begun, do_start, add_round, do_round, name_at, do_name, with_path_heights, resolve_at, do_resolve, certify_at, do_certify, do_gap_question, commit_end, do_commit, do_outlook, drained, new_bottom, removing, do_remove, do_drop, Call, start, reset_all, round, name, resolve, certify, gap_question, commit, outlook, remove, drop as drop_to, perform}
use Rattle.spec.specs.WellFormed.{Wf, counts_as_started_intro}
use Rattle.spec.proofs.Accepted.{finish_store, gap_question_way, remove_way, drop_way, round_way, name_way, resolve_way, certify_way}
use Rattle.spec.specs.Demand.{InList, History, read_records, finished, test_after, Stops, OneForEach, Writes, StartRefused, is_done, adds, drains, Retains}
use Rattle.spec.specs.Records.{Event, passed, room-left, every-commit}
use Rattle.spec.proofs.Records.{commit_buffer}
use Rattle.spec.proofs.Preservation.{start-same, new_bottom_lem}
use Rattle.spec.proofs.Demand3First.{finishes_by, commit_by, finishes, outlook_store}

-- ---- what a commit keeps

-- the store at the call and the one that an anchor of it was committed from
abbrev pub Frame : Store → Store → Type 0
Frame s u = (u.bottom ≡ s.bottom) × (u.top ≡ s.top) × (u.conf ≡ s.conf)

pub frame_mark : (s u : Store) (e : EnqueuedAnchor) → Frame s u → Frame s (dequeued u e)
unfolding dequeued
frame_mark s u e f = f

-- what every commit mark keeps, a chain's commit keeps
commit-marks : (P : Store → Type 0) → ((s : Store) (e : EnqueuedAnchor) → P s → P (dequeued s e)) → (s : Store) (ls b : List ℕ) (at n : ℕ) (es : List EnqueuedAnchor) → P s → P (commit_all s ls b at n es).store
commit-marks P k = every-commit (λ s ls b at n es f evs. P s → P f.store) (λ s ls b at n h. h) (λ s ls b at n e es r t h. h) (λ s ls b at n e es a f evs t i h. i (k s e h))

pub commit-keeps-all : (P : Store → Type 0) → ((s : Store) (e : EnqueuedAnchor) → P s → P (dequeued s e)) → (s : Store) (i : Id) (ls b : List ℕ) → P s → P (do_commit s i ls b).store
unfolding do_commit commit_end
commit-keeps-all P k s i ls b h = go (anchors_of s i)
  where
    go : (o : Out (List EnqueuedAnchor)) → P (elim o as (λ x. Outcome) [ bad r ↦ record { answer = refused r 0; store = s; buffer = b } | good es ↦ commit_end (commit_all s ls b 0 0 es) ]).store
    go (bad r) = h
    go (good es) = commit-marks P k s ls b 0 0 es h

-- name, resolve, certify
unfoldable pub changes_point : Call → Bool
changes_point c = elim c [ start b ↦ false | reset_all ↦ false | round r peers ↦ false | name i ↦ true | resolve i t ↦ true | certify i ↦ true | gap_question ↦ false | commit i ls b ↦ false | outlook i b ↦ false | remove r from b ↦ false | drop_to r ↦ false ]

-- what added rounds, other numbers, commit marks and drains keep, every other call of a list keeps
module _ (P : Store → Type 0) (numbers : (s : Store) (p : Progress) (m : Memory) → P s → P (with_numbers s p m)) (rounds : (s : Store) (peers : ℕ) → P s → P (add_round s peers))
    (mark : (s : Store) (e : EnqueuedAnchor) → P s → P (dequeued s e)) (drain : (s : Store) (b : ℕ) → s.bottom ≤ b → P s → P (drained s b)) where
  pub steady : (s : Store) → Wf s → (c : Call) → InList c → changes_point c ≡ false → P s → P (perform s c).store
  unfolding perform changes_point
  steady s w (start b) h k l = subst P (sym (start-same s w b)) l
  steady s w reset_all h k l = absurd h
  steady s w (round r peers) h k l = finish_store P s _ l (λ t j. ⊎_elim (λ e. subst P e l) (λ (e, a, b). subst P e (rounds s peers l)) (round_way s r peers t j))
  steady s w (name i) h k l = absurd (true≢false k)
  steady s w (resolve i t) h k l = absurd (true≢false k)
  steady s w (certify i) h k l = absurd (true≢false k)
  steady s w gap_question h k l = gap_question_way P s l (λ p a b. numbers s p _ l)
  steady s w (commit i ls b) h k l = commit-keeps-all P mark s i ls b l
  steady s w (outlook i b) h k l = subst P (sym (outlook_store s i b)) l
  steady s w (remove r from b) h k l = remove_way P s r from b l (λ m. numbers _ _ m (drain s _ (new_bottom_lem s w (r - s.conf.history_rounds)).0 l))
  steady s w (drop_to r) h k l = drop_way P s r (λ p a b. numbers _ p _ (drain s _ (new_bottom_lem s w r).0 l))

-- ---- where a commit stops

abbrev pub anchor_id : Event → Id
anchor_id e = id_at e.from e.enq.anchor

-- the anchors of the records in a buffer
abbrev pub anchors_in : Store → Outcome → List Id
anchors_in s o = map (λ (h : History). h.anchor) (read_records s (finished o.answer) o.buffer)

abbrev ids_at : Store → List EnqueuedAnchor → List Id
ids_at s es = map (λ (e : EnqueuedAnchor). id_at s e.anchor) es

-- a mark changes no id
ids-mark : (s : Store) (x : EnqueuedAnchor) (es : List EnqueuedAnchor) → ids_at (dequeued s x) es ≡ ids_at s es
unfolding dequeued set_committed
ids-mark s x es = refl

abbrev StopsBy : Store → List ℕ → ℕ → List EnqueuedAnchor → List EnqueuedAnchor → Option Refusal → Type 0
StopsBy s ls left first [] o = o ≡ none
StopsBy s ls left first (e ∷ more) o = (r : Refusal) × (test_after s ls left first e ≡ bad r) × (o ≡ some r)

-- a chain, the anchors of it that were finished, and what stopped it
record Cut (s : Store) (ls : List ℕ) (left : ℕ) (chain : List EnqueuedAnchor) (evs : List Event) (o : Option Refusal) : Type 0 where
  first : List EnqueuedAnchor
  others : List EnqueuedAnchor
  oldest : chain ≡ first ++ others
  one : map anchor_id evs ≡ ids_at s first
  count : length evs ≡ length first
  pass : (before more : List EnqueuedAnchor) (e : EnqueuedAnchor) → first ≡ before ++ (e ∷ more) → (n : ℕ) × (test_after s ls left before e ≡ good n)
  stop : StopsBy s ls left first others o

none_first : {A : Type 0} (before more : List EnqueuedAnchor) (e : EnqueuedAnchor) → [] ≡ before ++ (e ∷ more) → A
none_first [] more e h = absurd (let z : ◌≡◌ {A = ℕ} 0 1 = cc in omega arith)
none_first (x ∷ xs) more e h = absurd (let z : ◌≡◌ {A = ℕ} 0 1 = cc in omega arith)

pass-more : (s : Store) (ls : List ℕ) (left : ℕ) (x : EnqueuedAnchor) (xs : List EnqueuedAnchor) (a : ℕ) → test_anchor s ls left (length (record_bytes s ls x)) x.anchor ≡ good a
    → ((before more : List EnqueuedAnchor) (e : EnqueuedAnchor) → xs ≡ before ++ (e ∷ more) → (n : ℕ) × (test_after (dequeued s x) (after_lists s x.anchor ls) (left - length (record_bytes s ls x)) before e ≡ good n))
    → (before more : List EnqueuedAnchor) (e : EnqueuedAnchor) → x ∷ xs ≡ before ++ (e ∷ more) → (n : ℕ) × (test_after s ls left before e ≡ good n)
unfolding test_after
pass-more s ls left x xs a h i [] more e k = (a, subst (λ (y : EnqueuedAnchor). test_anchor s ls left (length (record_bytes s ls y)) y.anchor ≡ good a) (cc) h)
pass-more s ls left x xs a h i (y ∷ ys) more e k = let (n, t) = i ys more e (cc) in (n, subst (λ (z : EnqueuedAnchor). test_after (dequeued s z) (after_lists s z.anchor ls) (left - length (record_bytes s ls z)) ys e ≡ good n) (cc) t)

stop-more : (s : Store) (ls : List ℕ) (left : ℕ) (x : EnqueuedAnchor) (xs others : List EnqueuedAnchor) (o : Option Refusal) → StopsBy (dequeued s x) (after_lists s x.anchor ls) (left - length (record_bytes s ls x)) xs others o → StopsBy s ls left (x ∷ xs) others o
unfolding test_after
stop-more s ls left x xs [] o h = h
stop-more s ls left x xs (e ∷ more) o h = h

cut : (s : Store) (ls b : List ℕ) (at n : ℕ) (es : List EnqueuedAnchor) → Cut s ls (length b - at) es (passed s ls (length b - at) es) (commit_all s ls b at n es).stopped
unfolding test_after
cut = every-commit (λ s ls b at n es f evs. Cut s ls (length b - at) es evs f.stopped) none-cut stop-cut more_cut
  where
    none-cut : (s : Store) (ls b : List ℕ) (at n : ℕ) → Cut s ls (length b - at) [] [] none
    none-cut s ls b at n = record { first = []; others = []; oldest = refl; one = refl; count = refl; pass = λ before more e h. none_first before more e h; stop = refl }

    stop-cut : (s : Store) (ls b : List ℕ) (at n : ℕ) (e : EnqueuedAnchor) (es : List EnqueuedAnchor) (r : Refusal) → test_anchor s ls (length b - at) (length (record_bytes s ls e)) e.anchor ≡ bad r
        → Cut s ls (length b - at) (e ∷ es) [] (some r)
    stop-cut s ls b at n e es r h = record { first = []; others = e ∷ es; oldest = refl; one = refl; count = refl; pass = λ before more x k. none_first before more x k; stop = (r, h, refl) }

    more_cut : (s : Store) (ls b : List ℕ) (at n : ℕ) (e : EnqueuedAnchor) (es : List EnqueuedAnchor) (a : ℕ) (f : Finished) (evs : List Event) → test_anchor s ls (length b - at) (length (record_bytes s ls e)) e.anchor ≡ good a
        → Cut (dequeued s e) (after_lists s e.anchor ls) (length (written b at (record_bytes s ls e)) - (at + length (record_bytes s ls e))) es evs f.stopped
        → Cut s ls (length b - at) (e ∷ es) (record { from = s; list = ls; enq = e } ∷ evs) f.stopped
    more_cut s ls b at n e es a f evs h i = record {
      first = e ∷ c.first;
      others = c.others;
      oldest = ap (λ l. e ∷ l) c.oldest;
      one = ap (λ l. id_at s e.anchor ∷ l) (c.one ∙ ids-mark s e c.first);
      count = ap suc c.count;
      pass = pass-more s ls (length b - at) e c.first a h c.pass;
      stop = stop-more s ls (length b - at) e c.first c.others _ c.stop;
    }
      where
        vs : List ℕ
        vs = record_bytes s ls e

        c : Cut (dequeued s e) (after_lists s e.anchor ls) (length b - at - length vs) es evs f.stopped
        c = subst (λ k. Cut (dequeued s e) (after_lists s e.anchor ls) k es evs f.stopped) (sym (room-left (length b) at (length (written b at vs)) (length vs) (written-length b at vs))) i

stop_is : (s : Store) (ls : List ℕ) (left : ℕ) (first others : List EnqueuedAnchor) (t : Store) (b : List ℕ) (n : ℕ) (o : Option Refusal) → n ≡ length first → StopsBy s ls left first others o → Stops s ls left first others (commit_end (record { store = t; buffer = b; anchors = n; stopped = o })).answer
unfolding commit_end
stop_is s ls left first [] t b n none e h = ap anchors e
stop_is s ls left first [] t b n (some r) e h = absurd (let z : ◌≡◌ {A = ℕ} 0 1 = cc in omega arith)
stop_is s ls left first (x ∷ more) t b n none e (r, k, h) = absurd (let z : ◌≡◌ {A = ℕ} 0 1 = cc in omega arith)
stop_is s ls left first (x ∷ more) t b n (some q) e (r, k, h) = (r, k, ap₂ refused (cc) e)

one_for_each : (s : Store) (ls b : List ℕ) (es : List EnqueuedAnchor) → anchors_in s (commit_end (commit_all s ls b 0 0 es)) ≡ map anchor_id (passed s ls (length b) es) → OneForEach s ls b es (commit_end (commit_all s ls b 0 0 es))
one_for_each s ls b es e = record { first = c.first; others = c.others; oldest = c.oldest; one = e ∙ c.one; pass = c.pass; stop = stop_is s ls (length b) c.first c.others _ _ _ _ (count ∙ c.count) c.stop }
  where
    c : Cut s ls (length b) es (passed s ls (length b) es) (commit_all s ls b 0 0 es).stopped
    c = subst (λ k. Cut s ls k es (passed s ls k es) (commit_all s ls b 0 0 es).stopped) (sub-zero (length b)) (cut s ls b 0 0 es)

    count : (commit_all s ls b 0 0 es).anchors ≡ length (passed s ls (length b) es)
    count = (commit_buffer s ls b 0 0 es (omega arith)).2 ∙ (zero-add (length (passed s ls (length b - 0) es)) ∙ ap (λ n. length (passed s ls n es)) (sub-zero (length b)))

none_written : (s : Store) (ls b : List ℕ) → commit_end (commit_all s ls b 0 0 []) ≡ record { answer = anchors 0; store = s; buffer = b }
unfolding commit_all commit_end
none_written s ls b = refl

-- what a commit writes, if the records' anchors are those that it finished
pub commit_writes : (s : Store) (i : Id) (ls b : List ℕ) → anchors_in s (do_commit s i ls b) ≡ map anchor_id (finishes s i ls b) → Writes s ls b (anchors_of s i) (do_commit s i ls b)
unfolding do_commit finishes
commit_writes s i ls b e = go (anchors_of s i) e
  where
    evs : Out (List EnqueuedAnchor) → List Event
    evs = finishes_by s ls b

    out : Out (List EnqueuedAnchor) → Outcome
    out = commit_by s ls b

    go : (o : Out (List EnqueuedAnchor)) → anchors_in s (out o) ≡ map anchor_id (evs o) → Writes s ls b o (out o)
    go (bad r) e = refl
    go (good []) e = none_written s ls b
    go (good (x ∷ es)) e = one_for_each s ls b (x ∷ es) e

-- ---- a start

pub start-refused : (s : Store) → Wf s → (b : StartArgs) → StartRefused s (do_start s b)
unfolding do_start finish refuse
start-refused s w b = rw (counts_as_started_intro s w.sized w) (go (not (start_ok s.places b)))
  where
    go : (a : Bool) → StartRefused s (finish s (refuse a 1 (refuse true 2 (good (begun s.places (memory_kept s) b)))))
    go true = inl refl
    go false = inr refl

-- ---- rounds

-- neither added nor drained
stays : (a : Bool) → a ≡ ((a || false) && not false)
stays true = refl
stays false = refl

frame_retained : (s t : Store) → Frame s t → (r : ℕ) → retained t r ≡ ((retained s r || false) && not false)
frame_retained s t (b, h, c) r = rw (b, h) (stays (leb s.bottom r && leb r s.top))

-- what a new bottom leaves
drain_law : (b t x r : ℕ) → (leb (max b (min x t)) r && leb r t) ≡ (((leb b r && leb r t) || false) && not (ltb r x && ltb r t))
drain_law b t x r = le_or b r
    (λ p. le_or x r
    (λ q. rw (le-leb (max b (min x t)) r (omega arith), le-leb b r p, le-ltb r x q) (stays (leb r t)))
    (λ q. le_or t r
    (λ u. rw (le-leb (max b (min x t)) r (omega arith), le-leb b r p, lt-ltb r x q, le-ltb r t u) (stays (leb r t)))
    (λ u. rw (lt-leb (max b (min x t)) r (omega arith), lt-ltb r x q, lt-ltb r t u) (sym (and_no_r ((leb b r && leb r t) || false) refl)))))
    (λ p. rw (lt-leb (max b (min x t)) r (omega arith), lt-leb b r p) refl)

-- a round more at the top
add_law : (b t n r : ℕ) → b ≤ t → n ≡ suc t → (leb b r && leb r n) ≡ (((leb b r && leb r t) || (eqb r n && true)) && not false)
add_law b t n r l e = le_or r t
    (λ k. rw (le-leb r t k, le-leb r n (omega arith), ne_eqb r n (λ q. omega arith)) (stays (leb b r && true)))
    (λ k. rw (le-leb b r (omega arith), lt-leb r t k) (same_or r n (λ q. rw (eq-eqb r n q, le-leb r n (omega arith)) refl) (λ q. rw (ne_eqb r n q, lt-leb r n (omega arith)) refl)))

drained-retained : (s : Store) (x r : ℕ) → retained (drained s (new_bottom s x)) r ≡ ((retained s r || false) && not (ltb r x && ltb r s.top))
unfolding drained new_bottom
drained-retained s x r = drain_law s.bottom s.top x r

round_retains : (s : Store) → Wf s → (x peers : ℕ) → Retains s (round x peers) (finish s (do_round s x peers))
unfolding do_round add_round refuse finish adds drains is_done
round_retains s w x peers r = go (ltb (suc s.top) x || ltb last_round x) refl (leb x s.top) refl (leb 512 (suc s.top - s.bottom))
  where
    out : Bool → Bool → Bool → Out Store
    out a b c = refuse a 3 (elim b [ true ↦ good s | false ↦ refuse c 4 (good (add_round s peers)) ])

    go : (a : Bool) → (ltb (suc s.top) x || ltb last_round x) ≡ a → (b : Bool) → leb x s.top ≡ b → (c : Bool)
        → retained (finish s (out a b c)).store r ≡ ((retained s r || (is_done (finish s (out a b c)).answer && (eqb r x && ltb s.top x))) && not false)
    go true e b f c = stays (retained s r)
    go false e true f c = rw (le-ltb s.top x (leb-true x s.top f), and_no_r (eqb r x) refl) (stays (retained s r))
    go false e false f true = stays (retained s r)
    go false e false f false = added
      where
        at : x ≡ suc s.top
        at = omega (arith, ltb-false (suc s.top) x (or_none _ (ltb last_round x) e).0, leb-false x s.top f)

        added : retained (add_round s peers) r ≡ ((retained s r || (eqb r x && ltb s.top x)) && not false)
        added = rw (at, lt-ltb s.top (suc s.top) (omega arith)) (add_law s.bottom s.top (suc s.top) r w.rounds_ok refl)

remove_retains : (s : Store) (x : ℕ) (from : Option ℕ) (b : List ℕ) → Retains s (remove x from b) (do_remove s x from b)
unfolding do_remove adds drains is_done with_numbers
remove_retains s x from b r = go (removing s x b (remove_bytes s low from))
  where
    low : ℕ
    low = new_bottom s (x - s.conf.history_rounds)

    out : Out (List ℕ) → Outcome
    out o = elim o [
      | bad n ↦ record { answer = refused n 0; store = s; buffer = b }
      | good bytes ↦ record { answer = done; store = with_memory (drained s low) (memory_after s s.memory (inspected s low)); buffer = written b 0 bytes }
    ]

    go : (o : Out (List ℕ)) → retained (out o).store r ≡ ((retained s r || false) && not (is_done (out o).answer && (ltb r (x - s.conf.history_rounds) && ltb r s.top)))
    go (bad n) = stays (retained s r)
    go (good bytes) = drained-retained s (x - s.conf.history_rounds) r

drop_retains : (s : Store) (x : ℕ) → Retains s (drop_to x) (do_drop s x)
unfolding do_drop adds drains with_numbers
drop_retains s x r = drained-retained s x r

name_frame : (s : Store) (i : Id) (q : ℕ) → Frame s (name_at s i q)
unfolding name_at with_points
name_frame s i q = (refl, refl, refl)

resolve_frame : (s : Store) (t : Resolution) (q : ℕ) → Frame s (resolve_at s t q)
unfolding resolve_at with_path_heights with_points
resolve_frame s t q = (refl, refl, refl)

certify_frame : (s : Store) (q : ℕ) → Frame s (certify_at s q)
unfolding certify_at with_path_heights with_points
certify_frame s q = (refl, refl, refl)

numbers_frame : (s : Store) (p : Progress) (m : Memory) → Frame s (with_numbers s p m)
unfolding with_numbers
numbers_frame s p m = (refl, refl, refl)

-- the round calls and drains apart, a call leaves bottom and top
pub perform_retains : (s : Store) → Wf s → (c : Call) → InList c → Retains s c (perform s c)
unfolding perform adds drains
perform_retains s w (start b) h = frame_retained s (do_start s b).store (subst (Frame s) (sym (start-same s w b)) (refl, refl, refl))
perform_retains s w reset_all h = absurd h
perform_retains s w (round x peers) h = round_retains s w x peers
perform_retains s w (name i) h = frame_retained s (finish s (do_name s i)).store (finish_store (Frame s) s _ (refl, refl, refl) (λ t k. subst (Frame s) (name_way s i t k).is (name_frame s i _)))
perform_retains s w (resolve i resolution) h = frame_retained s (finish s (do_resolve s i resolution)).store (finish_store (Frame s) s _ (refl, refl, refl) (λ t k. subst (Frame s) (resolve_way s i resolution t k).is (resolve_frame s resolution _)))
perform_retains s w (certify i) h = frame_retained s (finish s (do_certify s i)).store (finish_store (Frame s) s _ (refl, refl, refl) (λ t k. subst (Frame s) (certify_way s i t k).is (certify_frame s _)))
perform_retains s w gap_question h = frame_retained s (do_gap_question s).store (gap_question_way (Frame s) s (refl, refl, refl) (λ p a b. numbers_frame s p _))
perform_retains s w (commit i ls b) h = frame_retained s (do_commit s i ls b).store (commit-keeps-all (Frame s) (frame_mark s) s i ls b (refl, refl, refl))
perform_retains s w (outlook i b) h = frame_retained s (do_outlook s i b).store (subst (Frame s) (sym (outlook_store s i b)) (refl, refl, refl))
perform_retains s w (remove x from b) h = remove_retains s x from b
perform_retains s w (drop_to x) h = drop_retains s x

-- one round
one_law : (b r : ℕ) → (leb b r && leb r b) ≡ eqb r b
one_law b r = same_or r b
    (λ q. rw (le-leb b r (omega arith), le-leb r b (omega arith), eq-eqb r b q) refl)
    (λ q. le_or b r (λ l. rw (le-leb b r l, lt-leb r b (omega arith), ne_eqb r b q) refl) (λ l. rw (lt-leb b r l, ne_eqb r b q) refl))

-- a start adds its bottom
pub begun_retains : (n : ℕ) (m : Memory) (b : StartArgs) (r : ℕ) → retained (begun n m b) r ≡ eqb r b.bottom
unfolding begun
begun_retains n m b r = one_law b.bottom r
