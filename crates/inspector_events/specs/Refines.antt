-- What the code sends of one author's points is what 01 says (01: inspector.rs, `take_events`).
use Prim.Native.Nat.{ℕ, ◌+◌, ◌-◌}
use Rattle.std.specs.Prelude.{◌≡◌, ltb, length}
use Rattle.std.proofs.Common.{sym, ◌∙◌, arith}
use Rattle.std.proofs.Math.Path.{ap, ap₂}
use mathlib.Core.List.{List, [], ◌∷◌, map}
use Rattle.std.proofs.Math.Bool.{cond}
use Rattle.std.proofs.lemmas.List.{length-map}
use Rattle.laws.specs.Lists.{keep, map_same}
use Rattle.spec.specs.Ids.{Id}
use Rattle.spec.specs.Store.{Point, Store, id_at}
use Rattle.spec.specs.Inspect.{of, places_in, is_found, InspectedRound, single, equivocation, only_if, singles, equivocations}
use Rattle.models.specs.Digest.{Fit}
use Rattle.models.specs.Tables.{digest_of, Used}
use Rattle.commit_state.specs.View.{point_at}
use Rattle.commit_state.specs.declared.state.State.{State}
use Rattle.tables_test.specs.View.{view}
use Rattle.tables_test.specs.Refines.{Started}
use Rattle.answer_bytes.specs.Bytes.{place_id}
use Rattle.back_history.specs.RefinesNeeded.{used_point}
use Rattle.back_history.specs.Refines.{picked, picked_elim}
use Rattle.inspector_counters.specs.Places.{low_of, high_of, high_le}
use Rattle.inspector_counters.specs.Tests.{passes, test_of}
use Rattle.inspector_counters.proofs.Count.{keep_is}
use Rattle.inspector_counters.specs.declared.tests.PointTest.{PointTest}
use Rattle.inspector_counters.specs.declared.tests.PointTest.TheVariants.{Found}
use Rattle.inspector_events.specs.Told.{one_if}
use Rattle.inspector_events.specs.Passing.{passing-picked}
use Rattle.inspector_events.specs.Author.{singles_of, digests_of, fork_of}

module _ (s : State) (ks ls cs os : List ℕ) (fk : Fit ks) (fl : Fit ls) (t : Started s ks ls cs os) where
  -- the store
  abbrev v : Store
  v = view s ks ls cs os

  -- the id of a used place
  pub id_used : (q : ℕ) → Used os s.count q → place_id ks q ≡ id_at v q
  unfolding point_at
  id_used q u = ap (λ (p : Point). p.id) (sym (used_point s ks ls cs os fk fl t q u))

  module _ (r : ℕ) where
    -- the first position of the round
    abbrev low : ℕ
    low = low_of s ks os r

    -- the first above it
    abbrev high : ℕ
    high = high_of s ks os r

    -- what is sent of the places picked, by what 01 reads of them
    passed_is : {A : Type 0} (x y : ℕ → A) → ((q : ℕ) → Used os s.count q → x q ≡ y q) → (a : ℕ) (w : PointTest) → map x (picked os (passes ks cs a w) low (high - low)) ≡ map y (keep (of (test_of w v) v a) (places_in v r))
    passed_is x y h a w =
        map_same x y (picked os (passes ks cs a w) low (high - low))
        (λ q m. let (j, l, e, p) = picked_elim os (passes ks cs a w) low (high - low) q m in
        h q (low + j, omega (arith, l, high_le s ks ls cs os fk fl t r), sym e))
        ∙ ap (map y) (keep_is s ks ls cs os fk fl t r a w)

    module _ (x : InspectedRound) (e : x.round ≡ r) (a : ℕ) where
      pub singles_is : (kind : ℕ) (w : PointTest) → singles_of ks cs os low (high - low) kind w a ≡ singles kind (test_of w) v x a
      unfolding singles
      singles_is kind w =
          passing-picked os (passes ks cs a w) (λ q. single kind (place_id ks q)) low (high - low)
          ∙ (passed_is (λ q. single kind (place_id ks q)) (λ q. single kind (id_at v q)) (λ q u. ap (single kind) (id_used q u)) a w
          ∙ ap (λ n. map (λ q. single kind (id_at v q)) (keep (of (test_of w v) v a) (places_in v n))) (sym e))

      digests_are : digests_of ks cs os low (high - low) a ≡ map (λ q. (id_at v q).digest) (keep (of (is_found v) v a) (places_in v x.round))
      unfolding test_of
      digests_are =
          passing-picked os (passes ks cs a Found) (digest_of ks) low (high - low)
          ∙ (passed_is (digest_of ks) (λ q. (id_at v q).digest) (λ q u. ap (λ (i : Id). i.digest) (id_used q u)) a Found
          ∙ ap (λ n. map (λ q. (id_at v q).digest) (keep (of (is_found v) v a) (places_in v n))) (sym e))

      pub fork_is : fork_of a r (digests_of ks cs os low (high - low) a) ≡ equivocations v x a
      unfolding fork_of one_if equivocations only_if
      fork_is =
          let qs : List ℕ = keep (of (is_found v) v a) (places_in v x.round) in
          ap₂ (λ n ds. cond (ltb 1 (length ds)) (equivocation a n ds ∷ []) []) (sym e) digests_are
          ∙ ap (λ n. cond (ltb 1 n) (equivocation a x.round (map (λ q. (id_at v q).digest) qs) ∷ []) []) (length-map qs (λ q. (id_at v q).digest))
