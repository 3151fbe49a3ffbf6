-- Theorems on the definitions of specs/Refines.
use Rattle.std.specs.Prelude.{ℕ, ◌≡◌, refl, List, leb, length}
use Rattle.std.proofs.Math.Path.{sym}
use Rattle.std.proofs.Common.{ap, ◌∙◌}
use Rattle.spec.specs.Store.{Store}
use Rattle.spec.specs.Chain.{good, then, refuse}
use Rattle.spec.specs.History.{history, tested}
use Rattle.models.specs.Digest.{Fit}
use Rattle.models.specs.Tables.{Used}
use Rattle.models.specs.Refusal.{unless_failed}
use Rattle.commit_state.specs.View.{conf_of}
use Rattle.commit_state.specs.declared.state.State.{State}
use Rattle.tables_test.specs.View.{view}
use Rattle.tables_test.specs.Refines.{Started}
use Rattle.back_history.specs.RefinesNeeded.{used_round}
use Rattle.back_history.specs.Refines.{history-count, flat_is, missing_is}
use Rattle.back_committable.specs.declared.anchor.Tested.{Tested}
use Rattle.back_committable.specs.Model.{history_span, code_of, gathered_in, gathered_of, tested_in, tested_of}
use Rattle.back_committable.proofs.RefinesPoints.{faults_is}
use Rattle.back_committable.specs.Refines.{refuse_is, then_is}
use Rattle.models.specs.Refusal.{no_refusal}

module _ (s : State) (ks ls cs os : List ℕ) (fk : Fit ks) (fl : Fit ls) (t : Started s ks ls cs os) (a : ℕ) (used : Used os s.count a) where
  -- the store
  abbrev v : Store
  v = view s ks ls cs os

  -- the tests of an anchor
  pub tested_is : unless_failed (tested_of s ks ls cs os a).check (good a) ≡ tested v a
  unfolding tested_of tested_in gathered_of gathered_in history_span code_of tested unless_failed view conf_of
  tested_is = sym (
      (λ i. refuse (leb (used_round s ks ls cs os fk fl t a used i) s.genesis.0) 22 (then (faults_is s ks ls cs os fk fl t a used i) (λ x. refuse (missing_is s ks ls cs os fk fl t a used i) 17 (refuse (flat_is s ks ls cs os fk fl t a used i) 18 (good a)))))
      ∙ refuse_is _ 22 _ _ _ (then_is _ _ 0 _ _ (refuse_is _ 17 _ _ _ (refuse_is _ 18 _ (good a) no_refusal refl))))

  -- the same of what the code returns
  pub outcome_by : (r : Tested) → r ≡ tested_of s ks ls cs os a → unless_failed r.check (good a) ≡ tested v a
  outcome_by r e = ap (λ (y : Tested). unless_failed y.check (good a)) e ∙ tested_is

  -- the number of points in its history
  pub tested-count : (tested_of s ks ls cs os a).count ≡ length (history v a)
  unfolding tested_of tested_in gathered_of gathered_in history_span
  tested-count = sym (history-count s ks ls cs os fk fl t a used)
