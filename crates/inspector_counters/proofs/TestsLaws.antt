-- Theorems on the definitions of specs/Tests.
use Rattle.std.specs.Prelude.{ℕ, zero, suc, ◌≤◌, ◌≡◌, List, Bool, true, not, ◌&&◌, ◌||◌, ltb, get_or}
use Rattle.std.proofs.Math.Path.{refl, sym, ap}
use Rattle.std.proofs.Common.{◌∙◌, arith, eq-eqb, ne_eqb}
use Rattle.std.proofs.Math.Bool.{false, cond}
use Rattle.std.proofs.Math.Dec.{eqb}
use Rattle.laws.specs.Test.{same_or}
use Rattle.spec.specs.Store as store
use Rattle.spec.specs.Store.{Point, Store, resolved}
use Rattle.spec.specs.Paths.{height, certified, proved}
use Rattle.spec.specs.Inspect.{of, is_found, is_valid, is_proved, is_trans_invalid, is_invalid, is_ill_formed, is_trusted}
use Rattle.spec.specs.Inspection.{proved_at}
use Rattle.spec.proofs.Inspection.{found_at}
use Rattle.models.specs.Cert.{bit_of, flags_of, height_of, has_proof}
use Rattle.models.specs.DagPoint.{case_of}
use Rattle.models.specs.Digest.{Fit}
use Rattle.models.specs.Tables.{author_at, status_at, marks_at, Used}
use Rattle.models.specs.declared.dag_point.DagPoint.{DagPoint}
use Rattle.models.specs.declared.dag_point.DagPoint.TheVariants.{Valid, TransInvalid, Invalid, IllFormed, NotFound}
use Rattle.dag_round_keys.specs.Look.{look_as, look_place}
use Rattle.dag_round_keys.specs.declared.look.Look.{Look}
use Rattle.dag_round_keys.specs.declared.look.Look.TheVariants.{Resolved, Named, Never}
use Rattle.commit_state.specs.View.{point_at, resolution_at}
use Rattle.commit_state.specs.declared.state.State.{State}
use Rattle.tables_test.specs.View.{view}
use Rattle.tables_test.specs.Refines.{Started}
use Rattle.back_history.specs.RefinesNeeded.{used_point, used_named, used_height}
use Rattle.inspector_counters.specs.declared.tests.PointTest.{PointTest}
use Rattle.inspector_counters.specs.declared.tests.PointTest.TheVariants as test
use Rattle.inspector_counters.specs.declared.tests.Version.{Version}
use Rattle.inspector_counters.specs.declared.tests.Passed.{Passed}
use Rattle.inspector_counters.specs.Tests.{version_at, inspect_case, inspect_by, inspected, chosen, passes, test_of, by_status, passed_in, test-passed, cause_free}

-- they are those by the look-up
status_case : (st q : ℕ) (g p m : Bool) → st ≤ 5 → inspect_by (look_as (case_of st) q) g p m ≡ by_status st g p m
unfolding inspect_by inspect_case case_of look_as
status_case zero q g p m l = refl
status_case (suc zero) q g p m l = refl
status_case (suc (suc zero)) q g p m l = refl
status_case (suc (suc (suc zero))) q g p m l = refl
status_case (suc (suc (suc (suc zero)))) q g p m l = refl
status_case (suc (suc (suc (suc (suc zero))))) q g p m l = refl
status_case (suc (suc (suc (suc (suc (suc st)))))) q g p m l = absurd (omega (arith, l))

module _ (s : State) (ks ls cs os : List ℕ) (fk : Fit ks) (fl : Fit ls) (t : Started s ks ls cs os) (q : ℕ) (u : Used os s.count q) where
  -- the store
  abbrev v : Store
  v = view s ks ls cs os

  -- its point is that of its words
  point : v.pt q ≡ point_at ks ls cs q
  point = used_point s ks ls cs os fk fl t q u

  -- what is read of it
  passed_used : passed_in v q ≡ by_status (status_at ks q) (version_at ks cs q).certified (version_at ks cs q).proved (cond (eqb (status_at ks q) 0) false (bit_of 4 (marks_at ks q)))
  unfolding version_at has_proof certified proved point_at resolution_at
  passed_used =
      let resolution : store.status_at v q ≡ status_at ks q = ap (λ (p : Point). p.resolution.status) point ∙ same_or (status_at ks q) 0 (λ e. rw (eq-eqb (status_at ks q) 0 e) (sym e)) (λ d. rw (ne_eqb (status_at ks q) 0 d) refl) in
      let cause : (v.pt q).resolution.cause ≡ cond (eqb (status_at ks q) 0) false (bit_of 4 (marks_at ks q)) = ap (λ (p : Point). p.resolution.cause) point ∙ same_or (status_at ks q) 0 (λ e. rw (eq-eqb (status_at ks q) 0 e) refl) (λ d. rw (ne_eqb (status_at ks q) 0 d) refl) in
      let high : height v q ≡ height_of (get_or cs q 0) = sym (used_height s ks ls cs os fk fl t q u) in
      let top : (v.pt q).flags.top ≡ (flags_of (get_or cs q 0)).top = ap (λ (p : Point). p.flags.top) point in
      λ i. by_status (resolution i) (ltb 0 (high i)) (ltb 0 (high i) && top i) (cause i)

  -- the tests of its words are those of 01
  pub test_is : (w : PointTest) → chosen w (inspected (version_at ks cs q)) ≡ test_of w v q
  unfolding inspected version_at look_place
  test_is w =
      let g = (version_at ks cs q).certified in
      let p = (version_at ks cs q).proved in
      let m = bit_of 4 (marks_at ks q) in
      ap (chosen w) (status_case (status_at ks q) q g p m (t.facts.words q u).named.status ∙ (sym (cause_free (status_at ks q) g p m) ∙ sym passed_used)) ∙ sym (test-passed w v q (used_named s ks ls cs os fk fl t q u))

  -- and so for one author
  pub passes_is : (a : ℕ) (w : PointTest) → passes ks cs a w q ≡ of (test_of w v) v a q
  unfolding passes point_at
  passes_is a w = (λ i. eqb (author i) a && test_is w i)
    where
      author : author_at ks q ≡ (v.pt q).id.author
      author = ap (λ (p : Point). p.id.author) (sym point)
