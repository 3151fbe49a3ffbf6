-- The call outlook (01: 'Outlook'): "for each anchor a trigger would yield, its id and the number of points in its history", "refused as the
-- commit would be, by 20 never, by 21 for its own buffer", "with nothing written"; 02, N1: "each of its records ends with how many such
-- points each of those rounds has".
use Prim.Native.Nat.{ℕ, suc}
use Rattle.std.specs.Prelude.{◌≡◌, true, length}
use Rattle.std.proofs.Math.Path.{refl, sym, ap}
use Rattle.std.proofs.Common.{◌∙◌, arith}
use mathlib.Core.List.{List, [], ◌∷◌}
use borrow.Author.Tests.{eqb-true}
use Rattle.laws.specs.Test.{by_test}
use Rattle.laws.specs.Bytes.{written}
use Rattle.spec.specs.Ids.{Id}
use Rattle.spec.specs.Store.{Store}
use Rattle.spec.specs.Rules.{counts_as_started}
use Rattle.spec.specs.Chain.{Out, bad, good, EnqueuedAnchor, anchors_of}
use Rattle.spec.specs.History.{outlook_all}
use Rattle.spec.specs.Calls as calls
use Rattle.spec.specs.Calls.{call, perform, is_start, buffer_of, do_outlook}
use Rattle.models.specs.Refusal.{refusal_of, refusal_from, refusal_of_from, refusal_from_of}
use Rattle.models.specs.declared.refusal.Refusal.{Refusal}
use Rattle.commit_state.specs.declared.state.State.{State}
use Rattle.back_chain.specs.Walked.{walked}
use Rattle.commit_answer.specs.declared.answer.Answer.TheVariants.{Anchors, Refused}
use Rattle.commit_answer.specs.declared.answer.Outcome.{Outcome}
use Rattle.commit_answer.specs.Answer.{answer_of, Tables, tables, view_of, Left, left, outcome_of, nothing_done, Did, did, refusal, by_tables, call_by_lem}
use Rattle.commit_outlook.specs.Chain.{ChainLooked}
use Rattle.std.specs.Prelude.{Err}
use Rattle.models.specs.Refusal.{Check, no_refusal}

-- ---- the model

-- what is left of the tables d and the buffer b: refused, or the bytes of the anchors es
unfoldable pub shown : Tables → List ℕ → List EnqueuedAnchor → Out (List ℕ) → Left
shown d b es (bad r) = record { answer = Refused (refusal_from r) 0; tables = d; buffer = b }
shown d b es (good bytes) = record { answer = Anchors (length es); tables = d; buffer = written b 0 bytes }

abbrev pub chain_shown : Tables → List ℕ → List EnqueuedAnchor → Left
chain_shown d b es = shown d b es (outlook_all (view_of d) (length b) es)

-- after the walk
unfoldable pub after_walk : Tables → List ℕ → Out (List EnqueuedAnchor) → Left
after_walk d b (bad r) = record { answer = Refused (refusal_from r) 0; tables = d; buffer = b }
after_walk d b (good es) = chain_shown d b es

-- what the call leaves
abbrev pub outlook_left : Id → List ℕ → Tables → Left
outlook_left i b d = after_walk d b (walked (view_of d) i)

-- ---- it is 01's

module _ (d : Tables) (b : List ℕ) where
  abbrev v : Store
  v = view_of d

  -- after the walk
  shown_is : (i : Id) (es : List EnqueuedAnchor) → anchors_of v i ≡ good es → outcome_of (chain_shown d b es) ≡ do_outlook v i b
  unfolding outcome_of answer_of refusal_of shown do_outlook
  shown_is i es e = by (outlook_all v (length b) es) refl
    where
      by : (o : Out (List ℕ)) → outlook_all v (length b) es ≡ o → outcome_of (shown d b es (outlook_all v (length b) es)) ≡ do_outlook v i b
      by (bad r) h = rw (do_outlook, e, h, refusal_of_from r) refl
      by (good bytes) h = rw (do_outlook, e, h) refl

  -- by whether the tables count as started
  outlook_is : (i : Id) → outcome_of (outlook_left i b d) ≡ call v (calls.outlook i b)
  unfolding outcome_of answer_of refusal_of refusal_from after_walk walked is_start perform buffer_of by_tables do_outlook
  outlook_is i = by_test (counts_as_started v) (λ t. rw t (by (anchors_of v i) refl)) (λ f. rw f refl) ∙ sym (call_by_lem v (calls.outlook i b) refl)
    where
      by : (o : Out (List EnqueuedAnchor)) → anchors_of v i ≡ o → outcome_of (after_walk d b (anchors_of v i)) ≡ do_outlook v i b
      by (bad r) e = rw (do_outlook, e, refusal_of_from r) refl
      by (good es) e = rw e (shown_is i es e)

  -- no anchors have no bytes
  shown_kept : (es : List EnqueuedAnchor) (o : Out (List ℕ)) → outlook_all v (length b) es ≡ o → nothing_done (shown d b es o).answer ≡ true → ((shown d b es o).tables ≡ d) × ((shown d b es o).buffer ≡ b)
  unfolding shown nothing_done outlook_all written
  shown_kept es (bad r) e h = (refl, refl)
  shown_kept [] (good bytes) e h = let z : [] ≡ bytes = cc in (refl, ap (written b 0) (sym z))
  shown_kept (x ∷ es) (good bytes) e h = let z : suc (length es) ≡ 0 = eqb-true _ 0 h in absurd (omega (arith, z))

  kept : (o : Out (List EnqueuedAnchor)) → nothing_done (after_walk d b o).answer ≡ true → ((after_walk d b o).tables ≡ d) × ((after_walk d b o).buffer ≡ b)
  unfolding after_walk
  kept (bad r) h = (refl, refl)
  kept (good es) h = shown_kept es (outlook_all v (length b) es) refl h

  -- what the contract says of what is left
  outlooked : (i : Id) (x : Left) → x ≡ outlook_left i b d → Did (calls.outlook i b) (outlook_left i b) d x
  unfolding buffer_of
  outlooked i = did (calls.outlook i b) (outlook_left i b) d (outlook_is i) (kept (walked v i))

-- ---- one law for each way out of the code

module _ (s : State) (ks ls cs os b : List ℕ) where
  abbrev t : Tables
  t = tables s ks ls cs os

  refused-left : (r : Refusal) (o : Outcome) → o ≡ refusal s r → left o ks ls cs os b ≡ record { answer = Refused (refusal_from (refusal_of r)) 0; tables = t; buffer = b }
  unfolding refusal
  refused-left r o f = ap (λ (y : Outcome). left y ks ls cs os b) f ∙ ap (λ (y : Refusal). record { answer = Refused y 0; tables = t; buffer = b }) (sym (refusal_from_of r))

  -- the anchors of a chain
  module _ (es : List EnqueuedAnchor) (c : Check) (b' : List ℕ) (h : ChainLooked (view_of t) b es c b') where
    pub shown-refused : (r : Refusal) → c ≡ Err r → (o : Outcome) → o ≡ refusal s r → left o ks ls cs os b' ≡ chain_shown t b es
    unfolding shown
    shown-refused r d o f =
        let (p, q) = h.refused r d in
        ap (λ (y : List ℕ). left o ks ls cs os y) q ∙ (refused-left r o f ∙ ap (shown t b es) (sym p))

    pub shown-all : c ≡ no_refusal → (n : ℕ) → n ≡ length es → left (record { answer = Anchors n; state = s }) ks ls cs os b' ≡ chain_shown t b es
    unfolding shown
    shown-all z n e =
        let (p, q) = h.anchors z in
        (λ j. record { answer = Anchors (e j); tables = t; buffer = q j }) ∙ ap (shown t b es) (sym p)

  module _ (i : Id) where
    -- refused before the first anchor
    pub says_refused : (r : Refusal) → walked (view_of t) i ≡ bad (refusal_of r) → (o : Outcome) → o ≡ refusal s r → Did (calls.outlook i b) (outlook_left i b) t (left o ks ls cs os b)
    unfolding after_walk
    says_refused r e o f = outlooked t b i _ (refused-left r o f ∙ ap (after_walk t b) (sym e))

    -- the anchors of the chain
    pub says_shown : (es : List EnqueuedAnchor) → walked (view_of t) i ≡ good es → (x : Left) → x ≡ chain_shown t b es → Did (calls.outlook i b) (outlook_left i b) t x
    unfolding after_walk
    says_shown es e x f = outlooked t b i x (f ∙ ap (after_walk t b) (sym e))
