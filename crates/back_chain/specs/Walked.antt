-- The anchors that a trigger yields, or what refuses it, on any tables (01: 'Chain', 'Refusals').
use Rattle.std.specs.Prelude.{ℕ, ◌≡◌, List, Bool, true, false, not, cond}
use Rattle.std.proofs.Math.Path.{refl}
use Rattle.std.proofs.Common.{sym, ◌∙◌, arith}
use borrow.Author.Tests.{not-true, not-false}
use Rattle.spec.specs.Ids.{Id}
use Rattle.spec.specs.Store.{Store}
use Rattle.spec.specs.Rules.{counts_as_started}
use Rattle.spec.specs.Chain.{number, Out, bad, good, EnqueuedAnchor, lowest_walked, anchors_of}
use Rattle.spec.specs.Walk.{Rising, rising_less}
use Rattle.spec.specs.WellFormed.{Wf, counts_as_started_elim}
use Rattle.spec.proofs.Preservation.{anchors_rising}
use Rattle.models.specs.Digest.{Fit}
use Rattle.models.specs.Refusal.{refusal_of}
use Rattle.models.specs.declared.refusal.Refusal.{Refusal}
use Rattle.models.specs.declared.refusal.Refusal.TheVariants.{Number}
use Rattle.commit_state.specs.declared.state.State.{State}
use Rattle.tables_test.specs.View.{view}
use Rattle.tables_test.specs.Whole.{sized}
use Rattle.tables_test.specs.Refines.{Started, counted}
use Rattle.back_chain.specs.declared.Chain.{Chain}
use Rattle.back_chain.specs.Chain.{Chained, chain_of, chain_out, out_good, out_bad}
use Rattle.std.specs.Prelude.{Ok, Err}

-- the anchors that the trigger yields; 2 for tables that don't count as started
unfoldable pub walked : Store → Id → Out (List EnqueuedAnchor)
walked v i = cond (counts_as_started v) (anchors_of v i) (bad (number 2))

-- ---- one law for each way out of a call that walks first

module _ (v : Store) (i : Id) (r : Bool) (e : r ≡ counts_as_started v) where
  pub walked_no : not r ≡ true → walked v i ≡ bad (refusal_of (Number 2))
  unfolding walked refusal_of
  walked_no h = rw (sym e ∙ not-true r h) refl

  module _ (h : not r ≡ false) where
    pub walked-counts : counts_as_started v ≡ true
    walked-counts = sym e ∙ not-false r h

    module _ (x : Chained) (d : chain_out x ≡ anchors_of v i) where
      pub walked-bad : (w : Refusal) → x ≡ Err w → walked v i ≡ bad (refusal_of w)
      unfolding walked
      walked-bad w z = rw walked-counts (sym d ∙ out_bad x w z)

      pub walked-good : (c : Chain) → x ≡ Ok c → walked v i ≡ good (chain_of c.list c.count)
      unfolding walked
      walked-good c z = rw walked-counts (sym d ∙ out_good x c z)

-- what it is given
module _ (s : State) (ks ls cs os : List ℕ) (fk : Fit ks) (fl : Fit ls) (h : counts_as_started (view s ks ls cs os) ≡ true) where
  -- the anchors rise
  pub chain-rises : (i : Id) (es : List EnqueuedAnchor) → walked (view s ks ls cs os) i ≡ good es → Rising (view s ks ls cs os) 0 es
  unfolding walked
  chain-rises i es e =
      let v = view s ks ls cs os in
      let t : Started s ks ls cs os = counted s ks ls cs os fk fl h in
      let w : Wf v = counts_as_started_elim v (sized s ks ls cs os fk fl t.shaped t.facts.inside) h in
      rising_less v 0 (lowest_walked v) es (omega arith) (anchors_rising v w i es (rw h at e))
