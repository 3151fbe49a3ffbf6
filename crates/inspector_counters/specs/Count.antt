-- How many points of one author pass a test, of those of one round (01: stats.rs).
use Prim.Native.Nat.{ℕ, zero, suc, ◌+◌, ◌*◌, ◌-◌, ◌<◌, ◌≤◌}
use Rattle.std.specs.Prelude.{◌≡◌, refl, List, [], ◌∷◌, ◌++◌, Bool, false, ltb}
use Rattle.std.proofs.Math.Path.{sym, ap}
use Rattle.std.proofs.Common.{subst, ◌∙◌, arith, eq-eqb, ne_eqb, lt-ltb}
use Rattle.std.proofs.Math.ListN.{length}
use Rattle.laws.specs.Test.{by_test, and_no, and_yes}
use Rattle.laws.specs.Scan.{those, those-same}
use Rattle.laws.specs.Lists.{has, keep, keep_append, count, up_to}
use Rattle.spec.specs.Store.{Store}
use Rattle.spec.specs.Inspect.{of, places_in}
use Rattle.models.specs.Digest.{Fit}
use Rattle.models.specs.Tables.{author_at, place_at, Inside}
use Rattle.dag_round_keys.specs.Sorted.{Sorted}
use Rattle.commit_state.specs.declared.state.State.{State}
use Rattle.tables_test.specs.Model.{shape_says, places_says}
use Rattle.tables_test.specs.View.{view}
use Rattle.tables_test.specs.Refines.{Started}
use Rattle.dag_round_order.specs.Span.{below-le, span-rises, span_of}
use Rattle.back_history.specs.Model.{Range}
use Rattle.back_history.specs.Refines.{one, picked}
use Rattle.inspector_counters.specs.Places.{between, low_of, high_of, round_used, places_in_lem}
use Rattle.inspector_counters.specs.Tests.{version_at, inspected, chosen, passes, test_of}
use Rattle.dag_round_order.specs.declared.span.Span.{Span}
use Rattle.inspector_counters.specs.declared.tests.PointTest.{PointTest}
use Rattle.inspector_counters.specs.declared.tests.Version.{Version}
use Rattle.inspector_counters.specs.declared.tests.Passed.{Passed}

-- the place at position low + k is by the author a and passes test w
unfoldable pub passes_at : List ℕ → List ℕ → List ℕ → ℕ → PointTest → ℕ → ℕ → Bool
passes_at ks cs os a w low k = passes ks cs a w (place_at os (low + k))

-- how many of the positions from low to high
unfoldable pub count_of : List ℕ → List ℕ → List ℕ → ℕ → ℕ → ℕ → PointTest → ℕ
count_of ks cs os low high a w = length (those (high - low) (passes_at ks cs os a w low))

-- of one list after another
count-append : {A : Type 0} (f : A → Bool) (xs ys : List A) → count f (xs ++ ys) ≡ count f xs + count f ys
unfolding count
count-append f [] ys = omega arith
count-append f (x ∷ xs) ys = let h = count-append f xs ys in omega (arith, h)

-- of the places at k positions as many as positions
pub count-between : (f : ℕ → Bool) (os : List ℕ) (low k : ℕ) → count f (between os low k) ≡ length (those k (λ j. f (place_at os (low + j))))
unfolding picked one up_to those count
count-between f os low zero = refl
count-between f os low (suc k) =
    let h : count f (between os low k) ≡ length (those k (λ j. f (place_at os (low + j)))) = count-between f os low k in
    count-append f (between os low k) (place_at os (low + k) ∷ [])
    ∙ by_test (f (place_at os (low + k))) (λ y. rw y (omega (arith, h))) (λ y. rw y (omega (arith, h)))

-- those that pass, of the places at k positions
pub keep-between : (f : ℕ → Bool) (os : List ℕ) (low k : ℕ) → keep f (between os low k) ≡ picked os f low k
unfolding picked one up_to keep
keep-between f os low zero = refl
keep-between f os low (suc k) = keep_append f (between os low k) (place_at os (low + k) ∷ []) ∙ ap (λ z. z ++ one (f (place_at os (low + k))) (place_at os (low + k))) (keep-between f os low k)

-- the test matters only at those positions
pub picked_same : (os : List ℕ) (f g : ℕ → Bool) (low k : ℕ) → ((j : ℕ) → j < k → f (place_at os (low + j)) ≡ g (place_at os (low + j))) → picked os f low k ≡ picked os g low k
unfolding picked one up_to
picked_same os f g low zero h = refl
picked_same os f g low (suc k) h = rw (h k (omega arith)) (ap (λ z. z ++ one (g (place_at os (low + k))) (place_at os (low + k))) (picked_same os f g low k (λ j l. h j (omega arith))))

-- one passes exactly if the count is above 0
pub has-count : {A : Type 0} (f : A → Bool) (l : List A) → has f l ≡ ltb 0 (count f l)
unfolding has count
has-count f [] = refl
has-count f (x ∷ xs) = by_test (f x) (λ y. rw y (sym (lt-ltb 0 (1 + count f xs) (omega arith)))) (λ y. let z : count f xs ≡ 0 + count f xs = omega arith in rw y (has-count f xs ∙ ap (ltb 0) z))

-- the positions of a round are a range
pub span_range : (ks cs os : List ℕ) (n r : ℕ) (x : Span) → x ≡ span_of ks os n r → Sorted ks os n → n ≤ length os → length os ≤ 4096 → length cs ≡ length os → Inside os n (length os) → Range cs os x.low x.high
unfolding span_of
span_range ks cs os n r x e so l few same inside =
    subst (λ (y : Span). Range cs os y.low y.high) (sym e)
    (span-rises ks os n r so, omega (arith, below-le ks os n (r + 1), l), few, same, λ i h. inside i (omega (arith, h, below-le ks os n (r + 1))))

-- ---- the steps of the code

module _ (ks cs : List ℕ) (a : ℕ) (w : PointTest) (q : ℕ) where
  -- another author
  pub passes_not : (author_at ks q ≡ a → ⊥) → false ≡ passes ks cs a w q
  unfolding passes
  passes_not d = sym (and_no _ (ne_eqb _ _ d))

  -- the author: the test decides
  pub passes_by : (b : Bool) (x : Version) (y : Passed) → author_at ks q ≡ a → x ≡ version_at ks cs q → y ≡ inspected x → b ≡ chosen w y → b ≡ passes ks cs a w q
  unfolding passes
  passes_by b x y e d h k = k ∙ (ap (chosen w) (h ∙ ap inspected d) ∙ sym (and_yes (eq-eqb _ _ e) refl))
