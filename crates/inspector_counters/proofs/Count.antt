-- Theorems on the definitions of specs/Count.
use Prim.Native.Nat.{ℕ, zero, suc, ◌+◌, ◌*◌, ◌-◌, ◌<◌, ◌≤◌}
use Rattle.std.specs.Prelude.{◌≡◌, refl, List, [], ◌∷◌, ◌++◌, Bool, false, ltb}
use Rattle.std.proofs.Math.Path.{sym, ap}
use Rattle.std.proofs.Common.{subst, ◌∙◌, arith, eq-eqb, ne_eqb, lt-ltb}
use Rattle.std.proofs.Math.ListN.{length}
use Rattle.laws.specs.Test.{by_test, and_no, and_yes}
use Rattle.laws.specs.Scan.{those, those-same}
use Rattle.laws.specs.Lists.{has, keep, keep_append, count, up_to}
use Rattle.spec.specs.Store.{Store}
use Rattle.spec.specs.Inspect.{of, places_in}
use Rattle.models.specs.Digest.{Fit}
use Rattle.models.specs.Tables.{author_at, place_at, Inside}
use Rattle.dag_round_keys.specs.Sorted.{Sorted}
use Rattle.commit_state.specs.declared.state.State.{State}
use Rattle.tables_test.specs.Model.{shape_says, places_says}
use Rattle.tables_test.specs.View.{view}
use Rattle.tables_test.specs.Refines.{Started}
use Rattle.dag_round_order.specs.Span.{below-le, span-rises, span_of}
use Rattle.back_history.specs.Model.{Range}
use Rattle.back_history.specs.Refines.{one, picked}
use Rattle.inspector_counters.specs.Places.{between, low_of, high_of, round_used, places_in_lem}
use Rattle.inspector_counters.specs.Tests.{version_at, inspected, chosen, passes, test_of}
use Rattle.inspector_counters.proofs.TestsLaws.{passes_is}
use Rattle.dag_round_order.specs.declared.span.Span.{Span}
use Rattle.inspector_counters.specs.declared.tests.PointTest.{PointTest}
use Rattle.inspector_counters.specs.declared.tests.Version.{Version}
use Rattle.inspector_counters.specs.declared.tests.Passed.{Passed}
use Rattle.inspector_counters.specs.Count.{passes_at, count_of, count-between, keep-between, picked_same, has-count, span_range}

module _ (s : State) (ks ls cs os : List ℕ) (fk : Fit ks) (fl : Fit ls) (t : Started s ks ls cs os) (r : ℕ) where
  -- the store
  abbrev v : Store
  v = view s ks ls cs os

  -- the first position of the round
  abbrev low : ℕ
  low = low_of s ks os r

  -- the first above it
  abbrev high : ℕ
  high = high_of s ks os r

  -- what a scan of the round asks for
  pub round_ready : (x : Span) → x ≡ span_of ks os s.count r → Range cs os x.low x.high × (length ks ≡ length os * 8)
  round_ready x e = let (a, b, c) = shape_says ks ls cs os t.shaped in (span_range ks cs os s.count r x e t.facts.sorted t.count_ok (places_says _ t.places_ok) c t.facts.inside, a)

  -- as many as 01 counts
  pub count_is : (a : ℕ) (w : PointTest) → count_of ks cs os low high a w ≡ count (of (test_of w v) v a) (places_in v r)
  unfolding count_of passes_at
  count_is a w =
      those-length (λ j l. passes_is s ks ls cs os fk fl t (place_at os (low + j)) (round_used s ks ls cs os fk fl t r (low + j) (omega arith)) a w)
      ∙ (sym (count-between (of (test_of w v) v a) os low (high - low)) ∙ ap (count (of (test_of w v) v a)) (sym (places_in_lem s ks ls cs os fk fl t r)))
    where
      those-length : {f g : ℕ → Bool} → ((j : ℕ) → j < high - low → f j ≡ g j) → length (those (high - low) f) ≡ length (those (high - low) g)
      those-length {f} {g} h = ap length (those-same (high - low) f g h)

  -- and so whether one passes
  pub has_is : (a : ℕ) (w : PointTest) → ltb 0 (count_of ks cs os low high a w) ≡ has (of (test_of w v) v a) (places_in v r)
  has_is a w = ap (ltb 0) (count_is a w) ∙ sym (has-count (of (test_of w v) v a) (places_in v r))

  -- what the search of its positions asks for
  pub span_ready : r ≤ 4_000_000_000 → ((length ks ≡ length os * 8) × (s.count ≤ length os) × Inside os s.count (length os)) × (Sorted ks os s.count × (r ≤ 4_000_000_000))
  span_ready l = let (a, b, c) = shape_says ks ls cs os t.shaped in ((a, t.count_ok, t.facts.inside), (t.facts.sorted, l))

  -- the places that pass, in 01's order
  pub keep_is : (a : ℕ) (w : PointTest) → picked os (passes ks cs a w) low (high - low) ≡ keep (of (test_of w v) v a) (places_in v r)
  keep_is a w =
      picked_same os (passes ks cs a w) (of (test_of w v) v a) low (high - low) (λ j l. passes_is s ks ls cs os fk fl t (place_at os (low + j)) (round_used s ks ls cs os fk fl t r (low + j) (omega arith)) a w)
      ∙ (sym (keep-between (of (test_of w v) v a) os low (high - low)) ∙ ap (keep (of (test_of w v) v a)) (sym (places_in_lem s ks ls cs os fk fl t r)))
