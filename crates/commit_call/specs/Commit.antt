-- The call commit (01: commit/mod.rs): "A commit does its whole walk first", then its anchors, oldest first.
use Rattle.std.specs.Prelude.{ℕ, ◌≡◌, true}
use Rattle.std.proofs.Math.Path.{refl, sym, ap, subst}
use Rattle.std.proofs.Common.{◌∙◌, arith, eqb-true}
use mathlib.Core.List.{List, ◌++◌}
use Rattle.laws.specs.Test.{by_test}
use Rattle.spec.specs.Ids.{Id}
use Rattle.spec.specs.Store.{Store}
use Rattle.spec.specs.Rules.{counts_as_started}
use Rattle.spec.specs.Chain.{Out, bad, good, EnqueuedAnchor, anchors_of}
use Rattle.spec.specs.History.{Finished, commit_all}
use Rattle.spec.specs.Calls as calls
use Rattle.spec.specs.Calls.{call, perform, is_start, buffer_of, do_commit, commit_end}
use Rattle.commit_state.specs.declared.state.State.{State}
use Rattle.tables_test.specs.View.{view}
use Rattle.back_chain.specs.Walked.{walked}
use Rattle.commit_dequeue.specs.All.{Left, stop_of, left_of, finished_of, all_of, all_kept, words_after, words_append, all_words}
use Rattle.models.specs.declared.refusal.Refusal.{Refusal}
use Rattle.commit_answer.specs.declared.answer.Answer.{Answer}
use Rattle.commit_answer.specs.declared.answer.Answer.TheVariants.{Anchors, Refused}
use Rattle.commit_answer.specs.declared.answer.Outcome.{Outcome}
use Rattle.models.specs.Refusal.{refusal_of, refusal_from, refusal_from_of}
use Rattle.commit_answer.specs.Answer as answers
use Rattle.commit_answer.specs.Answer.{answer_of, Tables, tables, view_of, left, nothing_done, Did, refusal, by_tables, call_by_lem}
use Rattle.std.specs.Prelude.{Err, Ok}
use Rattle.models.specs.Refusal.{Check, no_refusal}

-- ---- mirrors

-- the answer after n finished anchors
unfoldable pub answer_from : Check → ℕ → Answer
answer_from (Ok tt) n = Anchors n
answer_from (Err r) n = Refused r n

unfoldable pub ended_of : Check → State → ℕ → Outcome
ended_of c s n = record { answer = answer_from c n; state = s }

unfoldable pub outcome_of : Left → Outcome
outcome_of l = record { answer = answer_from l.stopped l.finished; state = l.state }

-- what is left after the walk
unfoldable pub after_walk : List ℕ → List ℕ → List ℕ → State → List ℕ → List ℕ → List ℕ → Out (List EnqueuedAnchor) → Left
after_walk ks ls os s cs l b (bad r) = record { state = s; certs = cs; buffer = b; finished = 0; stopped = Err (refusal_from r) }
after_walk ks ls os s cs l b (good es) = all_of ks ls os s cs l 0 b 0 0 es

-- what the call leaves; l: the lent lists, b: the lent buffer
unfoldable pub committed : State → List ℕ → List ℕ → List ℕ → List ℕ → Id → List ℕ → List ℕ → Left
committed s ks ls cs os i l b = after_walk ks ls os s cs l b (walked (view s ks ls cs os) i)

-- the same as the record of a call has it
abbrev pub commit_left : Id → List ℕ → List ℕ → Tables → answers.Left
commit_left i l b d = let x = committed d.state d.keys d.links d.certs d.order i l b in left (outcome_of x) d.keys d.links x.certs d.order x.buffer

-- ---- answers

-- nothing was done: no anchor is finished, whatever stopped them
idle_none : (c : Check) (n : ℕ) → nothing_done (answer_from c n) ≡ true → n ≡ 0
unfolding nothing_done answer_from
idle_none (Ok tt) n e = eqb-true n 0 e
idle_none (Err r) n e = eqb-true n 0 e

-- what a finished chain leaves is what 01's commit ends with
end_is : (c : Check) (f : Finished) → f.stopped ≡ stop_of c → record { answer = answer_of (answer_from c f.anchors); store = f.store; buffer = f.buffer } ≡ commit_end f
unfolding answer_of answer_from commit_end stop_of
end_is (Ok tt) f e = rw e refl
end_is (Err r) f e = rw e refl

-- ---- one law for each way out of the code

pub ended-by_check : (c d : Check) (s : State) (n : ℕ) → c ≡ d → record { answer = answer_from d n; state = s } ≡ ended_of c s n
unfolding ended_of
ended-by_check c d s n e = rw e refl

-- ---- the anchors

-- what the anchors of a chain leave, with the outcome o
abbrev pub Ended : List ℕ → List ℕ → List ℕ → State → List ℕ → List ℕ → List ℕ → List EnqueuedAnchor → Outcome → List ℕ → List ℕ → Type 0
Ended ks ls os s cs l b es o cs' b' =
    let x = all_of ks ls os s cs l 0 b 0 0 es in
    (o ≡ outcome_of x) × (cs' ≡ x.certs) × (b' ≡ x.buffer) × (finished_of ks ls os x ≡ commit_all (view s ks ls cs os) l b 0 0 es)

pub ended_by : (ks ls os : List ℕ) (s : State) (cs l b : List ℕ) (es : List EnqueuedAnchor) (c : Check) (s' : State) (cs' b' : List ℕ) (n : ℕ) → left_of c s' cs' b' n ≡ all_of ks ls os s cs l 0 b 0 0 es
    → finished_of ks ls os (left_of c s' cs' b' n) ≡ commit_all (view s ks ls cs os) l b 0 0 es → (o : Outcome) → o ≡ ended_of c s' n → Ended ks ls os s cs l b es o cs' b'
unfolding outcome_of ended_of
ended_by ks ls os s cs l b es c s' cs' b' n w f o g =
    (g ∙ ap outcome_of w, ap (λ (y : Left). y.certs) w, ap (λ (y : Left). y.buffer) w, subst (λ (y : Left). finished_of ks ls os y ≡ commit_all (view s ks ls cs os) l b 0 0 es) w f)

-- ---- the call

module _ (s : State) (ks ls cs os : List ℕ) (i : Id) (l b : List ℕ) where
  abbrev v : Store
  v = view s ks ls cs os

  -- what 01 leaves after the walk
  abbrev leave_by : Out (List EnqueuedAnchor) → calls.Outcome
  leave_by (bad r) = record { answer = calls.refused r 0; store = v; buffer = b }
  leave_by (good es) = commit_end (commit_all v l b 0 0 es)

  call_is : call v (calls.commit i l b) ≡ leave_by (walked v i)
  unfolding is_start perform buffer_of by_tables walked do_commit
  call_is = call_by_lem v (calls.commit i l b) refl ∙ by_test (counts_as_started v) (λ t. rw t (by (anchors_of v i) refl)) (λ f. rw f refl)
    where
      by : (o : Out (List EnqueuedAnchor)) → anchors_of v i ≡ o → do_commit v i l b ≡ leave_by (anchors_of v i)
      by (bad r) e = rw (e, do_commit) refl
      by (good es) e = rw (e, do_commit) refl

  -- what the contract says of an outcome, the certificate words and the buffer
  abbrev Says : Outcome → List ℕ → List ℕ → Type 0
  Says o cs' b' = Did (calls.commit i l b) (commit_left i l b) (tables s ks ls cs os) (left o ks ls cs' os b')

  -- from what is left
  says : (x : Left) → x ≡ committed s ks ls cs os i l b → answers.outcome_of (left (outcome_of x) ks ls x.certs os x.buffer) ≡ call v (calls.commit i l b)
      → (x.finished ≡ 0 → (x.state ≡ s) × (x.certs ≡ cs) × (x.buffer ≡ b)) → (o : Outcome) → o ≡ outcome_of x → Says o x.certs x.buffer
  unfolding outcome_of buffer_of
  says x is h k o f = record {
    answer = ap (λ (y : Outcome). answers.outcome_of (left y ks ls x.certs os x.buffer)) f ∙ h;
    words = ap (λ (y : Outcome). left y ks ls x.certs os x.buffer) f ∙ ap (λ (y : Left). left (outcome_of y) ks ls y.certs os y.buffer) is;
    kept = λ z.
        let (a, c, d) = k (idle_none x.stopped x.finished (ap (λ (y : Outcome). nothing_done y.answer) (sym f) ∙ z)) in
        ((λ j. tables ((ap (λ (y : Outcome). y.state) f ∙ a) j) ks ls (c j) os), d);
  }

  -- refused before the first anchor
  pub says_refused : (r : Refusal) → walked v i ≡ bad (refusal_of r) → (o : Outcome) → o ≡ refusal s r → Says o cs b
  unfolding committed after_walk answers.outcome_of answer_of answer_from outcome_of refusal
  says_refused r e o f =
      says (record { state = s; certs = cs; buffer = b; finished = 0; stopped = Err r })
      (sym (ap (after_walk ks ls os s cs l b) e ∙ ap (λ (y : Refusal). record { state = s; certs = cs; buffer = b; finished = 0; stopped = Err y }) (refusal_from_of r)))
      (sym (call_is ∙ ap leave_by e)) (λ z. (refl, refl, refl)) o f

  -- the anchors of the chain were gone through
  pub says_ended : (es : List EnqueuedAnchor) → walked v i ≡ good es → (o : Outcome) (cs' b' : List ℕ) → Ended ks ls os s cs l b es o cs' b' → Says o cs' b'
  unfolding committed after_walk answers.outcome_of outcome_of finished_of
  says_ended es e o cs' b' (f, c, d, g) =
      let x = all_of ks ls os s cs l 0 b 0 0 es in
      let h = says x (sym (ap (after_walk ks ls os s cs l b) e)) (end_is x.stopped (finished_of ks ls os x) refl ∙ (ap commit_end g ∙ sym (call_is ∙ ap leave_by e))) (all_kept ks ls os s cs l 0 b 0 0 es) o f in
      subst (λ (y : List ℕ). Says o cs' y) (sym d) (subst (λ (y : List ℕ). Says o y x.buffer) (sym c) h)

-- ---- not refused

anchors-passed : (c : Check) (m n : ℕ) → answer_from c m ≡ Anchors n → c ≡ no_refusal
unfolding answer_from
anchors-passed (Ok tt) m n h = refl
anchors-passed (Err r) m n h = absurd (let z : ◌≡◌ {A = ℕ} 0 1 = cc in omega arith)

-- the tables after anchors that all pass
abbrev pub tables_after : Tables → List EnqueuedAnchor → Tables
tables_after d es = let w = words_after d.keys d.links d.order d.state d.certs es in tables w.0 d.keys d.links w.1 d.order

pub tables-append : (d : Tables) (es fs : List EnqueuedAnchor) → tables_after d (es ++ fs) ≡ tables_after (tables_after d es) fs
tables-append d es fs = ap (λ (w : State × List ℕ). tables w.0 d.keys d.links w.1 d.order) (words_append d.keys d.links d.order d.state d.certs es fs)

-- what a commit that isn't refused leaves, to the word: neither lists nor buffer have a part in it
pub tables-left : (d : Tables) (i : Id) (l b : List ℕ) (n : ℕ) (x : answers.Left) → x ≡ commit_left i l b d → x.answer ≡ Anchors n → counts_as_started (view_of d) ≡ true → (es : List EnqueuedAnchor) → anchors_of (view_of d) i ≡ good es → x.tables ≡ tables_after d es
unfolding committed after_walk walked outcome_of
tables-left d i l b n x is a c es h =
    ap (λ (z : answers.Left). z.tables) is
    ∙ (ap (λ (z : Left). tables z.state d.keys d.links z.certs d.order) walks
    ∙ ap (λ (w : State × List ℕ). tables w.0 d.keys d.links w.1 d.order) (all_words d.keys d.links d.order d.state d.certs l 0 b 0 0 es (anchors-passed y.stopped y.finished n (sym says ∙ a))))
  where
    y : Left
    y = all_of d.keys d.links d.order d.state d.certs l 0 b 0 0 es

    chained : walked (view_of d) i ≡ good es
    chained = rw c h

    walks : committed d.state d.keys d.links d.certs d.order i l b ≡ y
    walks = ap (after_walk d.keys d.links d.order d.state d.certs l b) chained

    says : x.answer ≡ answer_from y.stopped y.finished
    says = ap (λ (z : answers.Left). z.answer) is ∙ ap (λ (z : Left). answer_from z.stopped z.finished) walks
