-- The tests of one point that the inspector makes (01: inspector.rs, stats.rs).
use Rattle.std.specs.Prelude.{ℕ, zero, suc, ◌≤◌, ◌≡◌, List, Bool, true, not, ◌&&◌, ◌||◌, ltb, get_or}
use Rattle.std.proofs.Math.Path.{refl, sym, ap}
use Rattle.std.proofs.Common.{◌∙◌, arith, eq-eqb, ne_eqb}
use Rattle.std.proofs.Math.Bool.{false, cond}
use Rattle.std.proofs.Math.Dec.{eqb}
use Rattle.laws.specs.Test.{same_or}
use Rattle.spec.specs.Store as store
use Rattle.spec.specs.Store.{Point, Store, resolved}
use Rattle.spec.specs.Paths.{height, certified, proved}
use Rattle.spec.specs.Inspect.{of, is_found, is_valid, is_proved, is_trans_invalid, is_invalid, is_ill_formed, is_trusted}
use Rattle.spec.specs.Inspection.{proved_at}
use Rattle.spec.proofs.Inspection.{found_at}
use Rattle.models.specs.Cert.{bit_of, flags_of, height_of, has_proof}
use Rattle.models.specs.DagPoint.{case_of}
use Rattle.models.specs.Digest.{Fit}
use Rattle.models.specs.Tables.{author_at, status_at, marks_at, Used}
use Rattle.models.specs.declared.dag_point.DagPoint.{DagPoint}
use Rattle.models.specs.declared.dag_point.DagPoint.TheVariants.{Valid, TransInvalid, Invalid, IllFormed, NotFound}
use Rattle.dag_round_keys.specs.Look.{look_as, look_place}
use Rattle.dag_round_keys.specs.declared.look.Look.{Look}
use Rattle.dag_round_keys.specs.declared.look.Look.TheVariants.{Resolved, Named, Never}
use Rattle.commit_state.specs.View.{point_at, resolution_at}
use Rattle.commit_state.specs.declared.state.State.{State}
use Rattle.tables_test.specs.View.{view}
use Rattle.tables_test.specs.Refines.{Started}
use Rattle.back_history.specs.RefinesNeeded.{used_point, used_named, used_height}
use Rattle.inspector_counters.specs.declared.tests.PointTest.{PointTest}
use Rattle.inspector_counters.specs.declared.tests.PointTest.TheVariants as test
use Rattle.inspector_counters.specs.declared.tests.Version.{Version}
use Rattle.inspector_counters.specs.declared.tests.Passed.{Passed}

-- what they read of place q
unfoldable pub version_at : List ℕ → List ℕ → ℕ → Version
version_at ks cs q =
    let c = get_or cs q 0 in
    record { look = look_place ks q; certified = ltb 0 (height_of c); proved = has_proof c; cause = bit_of 4 (marks_at ks q) }

-- no test passed
abbrev pub nothing : Passed
nothing = record { found = false; valid = false; proved = false; trans_invalid = false; invalid = false; ill_formed = false; trusted = false }

-- the tests that a point of this case passes: g certified, p proved, m its cause has a DAG round
unfoldable pub inspect_case : DagPoint → Bool → Bool → Bool → Passed
inspect_case Valid g p m = record { found = true; valid = true; proved = p; trans_invalid = false; invalid = false; ill_formed = false; trusted = true }
inspect_case TransInvalid g p m = record { found = true; valid = false; proved = p; trans_invalid = not p && m; invalid = false; ill_formed = false; trusted = g }
inspect_case Invalid g p m = record { found = true; valid = false; proved = p; trans_invalid = false; invalid = not g && m; ill_formed = false; trusted = g }
inspect_case IllFormed g p m = record { found = true; valid = false; proved = p; trans_invalid = false; invalid = false; ill_formed = not g; trusted = false }
inspect_case NotFound g p m = record { found = false; valid = false; proved = p; trans_invalid = false; invalid = false; ill_formed = false; trusted = false }

-- by what the look-up says of it
unfoldable pub inspect_by : Look → Bool → Bool → Bool → Passed
inspect_by (Resolved q x) g p m = inspect_case x g p m
inspect_by (Named q) g p m = nothing
inspect_by Never g p m = nothing

unfoldable pub inspected : Version → Passed
inspected x = inspect_by x.look x.certified x.proved x.cause

-- one of them
unfoldable pub chosen : PointTest → Passed → Bool
chosen test.Found x = x.found
chosen test.Valid x = x.valid
chosen test.Proved x = x.proved
chosen test.TransInvalid x = x.trans_invalid
chosen test.Invalid x = x.invalid
chosen test.IllFormed x = x.ill_formed
chosen test.Trusted x = x.trusted

-- the point at place q is by the author a and passes test w
unfoldable pub passes : List ℕ → List ℕ → ℕ → PointTest → ℕ → Bool
passes ks cs a w q = eqb (author_at ks q) a && chosen w (inspected (version_at ks cs q))

-- ---- the steps of the code

-- what is read, from its parts
pub version_is : (ks cs : List ℕ) (q m : ℕ) (x : Look) (g p : Bool) → m ≡ marks_at ks q → x ≡ look_place ks q → g ≡ ltb 0 (height_of (get_or cs q 0)) → p ≡ has_proof (get_or cs q 0)
    → record { look = x; certified = g; proved = p; cause = bit_of 4 m } ≡ version_at ks cs q
unfolding version_at
version_is ks cs q m x g p f d e h = λ i. record { look = d i; certified = e i; proved = h i; cause = bit_of 4 (f i) }

-- the tests of each case, from what none passes
module _ (n : Passed) (x : DagPoint) (g p m : Bool) (e : n ≡ nothing) where
  pub case_valid : x ≡ Valid → record { found = true; valid = true; proved = p; trans_invalid = n.trans_invalid; invalid = n.invalid; ill_formed = n.ill_formed; trusted = true } ≡ inspect_case x g p m
  unfolding inspect_case
  case_valid d = rw (e, d) refl

  pub case_trans_invalid : (b : Bool) → x ≡ TransInvalid → b ≡ (not p && m) → record { found = true; valid = n.valid; proved = p; trans_invalid = b; invalid = n.invalid; ill_formed = n.ill_formed; trusted = g } ≡ inspect_case x g p m
  unfolding inspect_case
  case_trans_invalid b d h = rw (e, d, h) refl

  pub case_invalid : (b : Bool) → x ≡ Invalid → b ≡ (not g && m) → record { found = true; valid = n.valid; proved = p; trans_invalid = n.trans_invalid; invalid = b; ill_formed = n.ill_formed; trusted = g } ≡ inspect_case x g p m
  unfolding inspect_case
  case_invalid b d h = rw (e, d, h) refl

  pub case_ill_formed : x ≡ IllFormed → record { found = true; valid = n.valid; proved = p; trans_invalid = n.trans_invalid; invalid = n.invalid; ill_formed = not g; trusted = n.trusted } ≡ inspect_case x g p m
  unfolding inspect_case
  case_ill_formed d = rw (e, d) refl

  pub case_not_found : x ≡ NotFound → record { found = n.found; valid = n.valid; proved = p; trans_invalid = n.trans_invalid; invalid = n.invalid; ill_formed = n.ill_formed; trusted = n.trusted } ≡ inspect_case x g p m
  unfolding inspect_case
  case_not_found d = rw (e, d) refl

-- each answer of the look-up
pub inspect_by_lem : (x : Version) (l y : Look) → l ≡ x.look → l ≡ y → (r : Passed) → r ≡ inspect_by y x.certified x.proved x.cause → r ≡ inspected x
unfolding inspected
inspect_by_lem x l y e d r h = h ∙ ap (λ (z : Look). inspect_by z x.certified x.proved x.cause) (sym d ∙ e)

-- ---- the same tests of 01's store

-- test w, as 01 defines it
unfoldable pub test_of : PointTest → Store → ℕ → Bool
test_of test.Found = is_found
test_of test.Valid = is_valid
test_of test.Proved = is_proved
test_of test.TransInvalid = is_trans_invalid
test_of test.Invalid = is_invalid
test_of test.IllFormed = is_ill_formed
test_of test.Trusted = is_trusted

-- the tests by the status
abbrev pub by_status : ℕ → Bool → Bool → Bool → Passed
by_status st g p m = record {
  found = ltb 0 st && ltb st 5;
  valid = eqb st 1;
  proved = ltb 0 st && p;
  trans_invalid = eqb st 2 && (not p && m);
  invalid = eqb st 3 && (not g && m);
  ill_formed = eqb st 4 && not g;
  trusted = eqb st 1 || ((eqb st 2 || eqb st 3) && g);
}

-- what the tests read of a point of the store
abbrev pub passed_in : Store → ℕ → Passed
passed_in v q = by_status (store.status_at v q) (certified v q) (proved v q) (v.pt q).resolution.cause

-- they test that
pub test-passed : (w : PointTest) (v : Store) (q : ℕ) → (v.pt q).named ≡ true → test_of w v q ≡ chosen w (passed_in v q)
unfolding test_of chosen is_valid is_trans_invalid is_invalid is_ill_formed is_trusted resolved
test-passed test.Found v q h = found_at v q ∙ rw h refl
test-passed test.Valid v q h = refl
test-passed test.Proved v q h = proved_at v q ∙ rw h refl
test-passed test.TransInvalid v q h = refl
test-passed test.Invalid v q h = refl
test-passed test.IllFormed v q h = refl
test-passed test.Trusted v q h = refl

-- an unresolved point fails all of them, so its cause doesn't matter
pub cause_free : (st : ℕ) (g p m : Bool) → by_status st g p (cond (eqb st 0) false m) ≡ by_status st g p m
cause_free st g p m = same_or st 0 (λ e. rw e refl) (λ d. rw (ne_eqb st 0 d) refl)
