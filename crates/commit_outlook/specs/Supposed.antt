-- 02, N6: "Each anchor's count now supposes that the anchors before it in the same outlook have been committed." The tables with the places
-- that these anchors took are, in the state that their commits would leave, read as the store after them.
use Rattle.std.specs.Prelude.{ℕ, ◌%◌, ◌<◌, ◌≡◌, refl, Bool, true, false, ◌&&◌, cond, leb, length, get_or, map, replicate}
use Rattle.std.specs.List.{range_with_len}
use Rattle.std.proofs.Common.{sym, subst, ◌∙◌, arith}
use Rattle.std.proofs.Math.Path.{ap}
use mathlib.Core.List.{List}
use Rattle.std.proofs.Math.ListN.{length-set}
use Rattle.std.proofs.lemmas.List.FromFn.{length-map-range_with_len, get_or-map-range_with_len}
use Rattle.spec.specs.Store.{Store, no_round}
use Rattle.spec.specs.Rules.{counts_as_started}
use Rattle.spec.specs.Chain.{good, EnqueuedAnchor}
use Rattle.spec.specs.History.{dequeued, outlook_bytes}
use Rattle.spec.specs.Outlook.{look_size}
use Rattle.spec.specs.Walk.{Anchored, Tested}
use Rattle.models.specs.Digest.{Fit}
use Rattle.models.specs.Tables.{round_at, author_at, Used}
use Rattle.models.specs.Refusal.{unless_failed}
use Rattle.commit_state.specs.declared.state.RoundRecord.{RoundRecord}
use Rattle.commit_state.specs.declared.state.State.{State}
use Rattle.commit_state.specs.State.{no_record}
use Rattle.commit_state.specs.View.{record_of, round_of, window, conf_of, progress_of}
use Rattle.tables_test.specs.View.{regular, view}
use Rattle.tables_test.specs.Refines.{Started}
use Rattle.back_history.specs.Supposing.{supposing, supposing-none}
use Rattle.back_committable.specs.declared.anchor.Gathered.{Gathered}
use Rattle.back_committable.specs.Model.{history_span, code_of, gathered_in, gathered_of, tested_in, tested_of}
use Rattle.back_committable.proofs.Refines.{tested_is}
use Rattle.output_record.specs.Marks.{marks_all}
use Rattle.output_record.specs.ModelState.{after_state}
use Rattle.commit_dequeue.specs.Refines.{held, anchor_used, marked-view, marked-counts}
use Rattle.commit_outlook.specs.Look.{look_long, look_bytes, look_code, Took, look_at, long_is, bytes_are, outcome_is}

-- the tables of s with the places tk taken, read as the store v
pub record Supposed (s : State) (ks ls cs os : List ℕ) (tk : List Bool) (v : Store) : Type 0 where
  -- the state that the commits would leave
  pub state : State
  pub seen : view state ks ls (supposing tk cs) os ≡ v
  -- it holds what the code reads as s does
  pub count : state.count ≡ s.count
  pub gathered : (ds : List ℕ) (a : ℕ) → gathered_of state ks ls ds os a ≡ gathered_of s ks ls ds os a
  pub tests : (ds : List ℕ) (a : ℕ) → (tested_of state ks ls ds os a).check ≡ (tested_of s ks ls ds os a).check
  pub records : length state.rounds ≡ 512

-- ---- at first

-- the first n records, as they are read
unfoldable whole : ℕ → List RoundRecord → List RoundRecord
whole n xs = map (λ (i : ℕ). get_or xs i no_record) (range_with_len 0 n)

whole-length : (n : ℕ) (xs : List RoundRecord) → length (whole n xs) ≡ n
unfolding whole
whole-length n xs = length-map-range_with_len (λ (i : ℕ). get_or xs i no_record) 0 n

whole_at : (n : ℕ) (xs : List RoundRecord) (i : ℕ) → i < n → get_or (whole n xs) i no_record ≡ get_or xs i no_record
unfolding whole
whole_at n xs i l = get_or-map-range_with_len (λ (j : ℕ). get_or xs j no_record) 0 n i i no_record l (omega arith)

whole-window : (xs : List RoundRecord) (b t r : ℕ) → window (whole 512 xs) b t r ≡ window xs b t r
unfolding window record_of
whole-window xs b t r = ap (λ (x : RoundRecord). cond (leb b r && leb r t) (round_of x) no_round) (whole_at 512 xs (r % 512) (omega arith))

-- a state with as many records as the type says. A reference to a state says it of none.
unfoldable with_whole : State → State
with_whole s = record {
  phase = s.phase;
  count = s.count;
  genesis = s.genesis;
  commit_history_rounds = s.commit_history_rounds;
  deduplicate_rounds = s.deduplicate_rounds;
  bottom = s.bottom;
  top = s.top;
  last_committed_proof = s.last_committed_proof;
  last_anchor = s.last_anchor;
  full_history_bottom = s.full_history_bottom;
  first_executable = s.first_executable;
  emit_first_after_gap = s.emit_first_after_gap;
  rounds = whole 512 s.rounds;
  memory = s.memory;
}

-- is read as the same store
whole-view : (s : State) (ks ls cs os : List ℕ) → view (with_whole s) ks ls cs os ≡ view s ks ls cs os
unfolding view with_whole regular progress_of conf_of
whole-view s ks ls cs os =
    let v = view s ks ls cs os in
    λ i. record {
      phase = v.phase;
      places = v.places;
      pt = v.pt;
      heights = v.heights;
      bottom = v.bottom;
      top = v.top;
      rounds = λ r. whole-window s.rounds s.bottom.0 s.top.0 r i;
      conf = v.conf;
      progress = v.progress;
      memory = v.memory;
    }

-- no place is taken
pub supposed-none : (s : State) (ks ls cs os : List ℕ) → Supposed s ks ls cs os (replicate 4096 false) (view s ks ls cs os)
unfolding with_whole tested_of tested_in gathered_of gathered_in history_span code_of
supposed-none s ks ls cs os = record {
  state = with_whole s;
  seen = ap (λ (ds : List ℕ). view (with_whole s) ks ls ds os) (supposing-none 4096 cs) ∙ whole-view s ks ls cs os;
  count = refl;
  gathered = λ ds a. refl;
  tests = λ ds a. refl;
  records = whole-length 512 s.rounds;
}

module _ (s : State) (ks ls cs os : List ℕ) (fk : Fit ks) (fl : Fit ls) (tk : List Bool) (v : Store) (p : Supposed s ks ls cs os tk v) (h : counts_as_started v ≡ true) (e : EnqueuedAnchor) (x : Anchored v e) where
  abbrev a : ℕ
  a = e.anchor

  abbrev st : State
  st = p.state

  abbrev ds : List ℕ
  ds = supposing tk cs

  started : counts_as_started (view p.state ks ls (supposing tk cs) os) ≡ true
  started = ap counts_as_started p.seen ∙ h

  anchored : Anchored (view p.state ks ls (supposing tk cs) os) e
  anchored = subst (λ (u : Store). Anchored u e) (sym p.seen) x

  t : Started p.state ks ls (supposing tk cs) os
  t = held st ks ls ds os fk fl started e anchored

  used : Used os p.state.count e.anchor
  used = anchor_used st ks ls ds os fk fl started e anchored

  -- the anchor stands at a used place
  pub supposed_used : Used os s.count e.anchor
  supposed_used = subst (λ (n : ℕ). Used os n a) p.count used

  -- the length of its bytes, its bytes, its tests
  pub supposed_long : look_long ks e.anchor (gathered_of s ks ls (supposing tk cs) os e.anchor) ≡ look_size v e.anchor
  supposed_long = ap (look_long ks a) (sym (p.gathered ds a)) ∙ (long_is st ks ls ds os fk fl t a used ∙ ap (λ (u : Store). look_size u a) p.seen)

  pub supposed-bytes : look_bytes s.count ks os e.anchor (gathered_of s ks ls (supposing tk cs) os e.anchor) ≡ outlook_bytes v e.anchor
  supposed-bytes =
      (λ i. look_bytes (sym p.count i) ks os a (sym (p.gathered ds a) i))
      ∙ (bytes_are st ks ls ds os fk fl t a used ∙ ap (λ (u : Store). outlook_bytes u a) p.seen)

  pub supposed-outcome : (left : ℕ) → unless_failed (look_code (tested_of s ks ls (supposing tk cs) os e.anchor).check left (look_long ks e.anchor (gathered_of s ks ls (supposing tk cs) os e.anchor))) (good e.anchor) ≡ look_at v left e.anchor
  supposed-outcome left =
      (λ i. unless_failed (look_code (sym (p.tests ds a) i) left (look_long ks a (sym (p.gathered ds a) i))) (good a))
      ∙ (outcome_is st ks ls ds os fk fl t a used (tested_is st ks ls ds os fk fl t a used) left ∙ ap (λ (u : Store). look_at u left a) p.seen)

  -- its places are taken: the store after its commit
  module _ (tk' : List Bool) (k : Took cs os tk (gathered_of s ks ls (supposing tk cs) os e.anchor) tk') where
    abbrev next : State
    next = after_state st (round_at ks e.anchor) (round_at ks e.proof) (author_at ks e.anchor)

    words : supposing tk' cs ≡ marks_all os (tested_of p.state ks ls (supposing tk cs) os e.anchor).marks (tested_of p.state ks ls (supposing tk cs) os e.anchor).low (supposing tk cs) (tested_of p.state ks ls (supposing tk cs) os e.anchor).high
    unfolding tested_of tested_in
    words = k.0 ∙ ap (λ (g : Gathered). marks_all os g.marks g.span.low ds g.span.high) (sym (p.gathered ds a))

    pub supposed-next : Supposed s ks ls cs os tk' (dequeued v e)
    unfolding after_state tested_of tested_in gathered_of gathered_in history_span code_of
    supposed-next = record {
      state = next;
      seen = ap (λ (cs' : List ℕ). view next ks ls cs' os) words ∙ (marked-view st ks ls ds os fk fl started e anchored p.records ∙ ap (λ (u : Store). dequeued u e) p.seen);
      count = p.count;
      gathered = λ ds b. p.gathered ds b;
      tests = λ ds b. p.tests ds b;
      records = length-set st.rounds _ _ ∙ p.records;
    }

    pub supposed-counts : Tested v e.anchor → counts_as_started (dequeued v e) ≡ true
    supposed-counts c =
        ap counts_as_started (ap (λ (u : Store). dequeued u e) (sym p.seen) ∙ sym (marked-view st ks ls ds os fk fl started e anchored p.records))
        ∙ marked-counts st ks ls ds os fk fl started e anchored p.records (subst (λ (u : Store). Tested u a) (sym p.seen) c)
