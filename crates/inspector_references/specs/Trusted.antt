-- The trusted points of one round, as places in the order of their digests (01: inspector.rs).
use Rattle.std.specs.Prelude.{ℕ, zero, suc, ◌+◌, ◌-◌, ◌<◌, ◌≤◌, ◌≡◌, Bool, true, false, ◌&&◌, ◌||◌, get_or, set, take, replicate}
use Rattle.std.proofs.Math.Path.{refl, sym, ap}
use Rattle.std.proofs.Common.{subst, ◌∙◌, arith, length-set, take-suc, take-suc-set, length-take-le, get_or-take}
use mathlib.Core.List.{List, [], ◌∷◌, ◌++◌, append-nil, Memᴰ}
use Rattle.std.proofs.Math.Numerals.{add-one}
use Rattle.std.proofs.Math.ListN.{length, length-replicate}
use Rattle.laws.specs.Test.{by_test}
use Rattle.laws.specs.Scan.{any}
use Rattle.laws.specs.Lists.{has, has-append, keep, get_d_in, up_to}
use Rattle.spec.specs.Store.{Store}
use Rattle.spec.specs.Inspect.{is_trusted, places_in}
use Rattle.models.specs.Digest.{Fit}
use Rattle.models.specs.Tables.{place_at}
use Rattle.commit_state.specs.declared.state.State.{State}
use Rattle.tables_test.specs.View.{view}
use Rattle.tables_test.specs.Refines.{Started}
use Rattle.back_history.specs.Refines.{one, picked}
use Rattle.inspector_counters.specs.Places.{low_of, high_of, places_in_lem, round_used}
use Rattle.inspector_counters.specs.Count.{keep-between, picked_same}
use Rattle.inspector_counters.specs.Tests.{version_at, inspected, chosen, test_of}
use Rattle.inspector_counters.proofs.TestsLaws.{test_is}
use Rattle.inspector_counters.specs.declared.tests.PointTest.TheVariants as test
use Rattle.inspector_counters.specs.declared.tests.Version.{Version}
use Rattle.inspector_counters.specs.declared.tests.Passed.{Passed}

-- the point at place q is trusted
abbrev pub trusted_at : List ℕ → List ℕ → ℕ → Bool
trusted_at ks cs q = (inspected (version_at ks cs q)).trusted

-- those of the k positions from low on
abbrev pub trusted_in : List ℕ → List ℕ → List ℕ → ℕ → ℕ → List ℕ
trusted_in ks cs os low k = picked os (trusted_at ks cs) low k

-- the first n of 128 cells hold the places qs
pub record Listed (l : List ℕ) (n : ℕ) (qs : List ℕ) : Type 0 where
  pub size : length l ≡ 128
  pub few : n ≤ 128
  pub are : take n l ≡ qs

-- ---- the steps of the code

module _ (ks cs os : List ℕ) (low : ℕ) where
  pub listed_none : Listed (replicate 128 0) 0 (trusted_in ks cs os low 0)
  unfolding picked up_to
  listed_none = record { size = length-replicate {A = ℕ} 128 0; few = omega arith; are = refl }

  module _ (k q n : ℕ) (l : List ℕ) (at : q ≡ place_at os (low + k)) (h : Listed l n (trusted_in ks cs os low k)) (x : Version) (p : Passed) (is : x ≡ version_at ks cs q) (by : p ≡ inspected x) (r : List ℕ) (m : ℕ) where
    tests : p.trusted ≡ trusted_at ks cs q
    tests = ap (λ (y : Passed). y.trusted) (by ∙ ap inspected is)

    pub listed_yes : p.trusted ≡ true → n < 128 → r ≡ set l n q → m ≡ n + 1 → Listed r m (trusted_in ks cs os low (k + 1))
    unfolding picked up_to one
    listed_yes t b e d = record {
      size = ap length e ∙ (length-set l n q ∙ h.size);
      few = omega arith;
      are = rw (d, add-one n, add-one k, e, up_to, ← at, ← tests, t) (take-suc-set l n q (omega (arith, h.size)) ∙ ap (λ x. x ++ (q ∷ [])) h.are);
    }

    pub listed_no : p.trusted ≡ false → r ≡ l → m ≡ n → Listed r m (trusted_in ks cs os low (k + 1))
    unfolding picked up_to one
    listed_no t e d = record { size = ap length e ∙ h.size; few = omega (arith, h.few); are = rw (d, e, add-one k, up_to, ← at, ← tests, t) (h.are ∙ sym (append-nil _)) }

  pub listed_end : (k m n : ℕ) (l : List ℕ) → Listed l n (trusted_in ks cs os low k) → k ≤ m → m ≤ k → Listed l n (trusted_in ks cs os low m)
  listed_end k m n l h a b = let e : k ≡ m = omega arith in rw e at h

-- ---- what they hold

-- a cell holds one of the places
pub listed_in : (l : List ℕ) (n : ℕ) (qs : List ℕ) → Listed l n qs → (j : ℕ) → j < n → Memᴰ (get_or l j 0) qs
listed_in l n qs h j m =
    subst (λ x. Memᴰ x qs) (get_or-take n l j 0 m) (subst (λ x. Memᴰ (get_or (take n l) j 0) x) h.are (get_d_in (take n l) j 0 (omega (arith, length-take-le n l (omega (arith, h.size, h.few))))))

-- one of the first n elements passes
pub has-take : {A : Type 0} (f : A → Bool) (l : List A) (z : A) (n : ℕ) → n ≤ length l → has f (take n l) ≡ any n (λ j. f (get_or l j z))
unfolding has any
has-take f l z zero m = refl
has-take f l z (suc n) m =
    ap (has f) (take-suc l n z (omega arith))
    ∙ (has-append f (take n l) (get_or l n z ∷ []) ∙ (ap (λ (x : Bool). x || (f (get_or l n z) || false)) (has-take f l z n (omega arith)) ∙ swap (any n (λ j. f (get_or l j z))) (f (get_or l n z))))
  where
    swap : (a b : Bool) → (a || (b || false)) ≡ (b || a)
    swap true true = refl
    swap true false = refl
    swap false true = refl
    swap false false = refl

-- of those kept one passes
pub has-keep : {A : Type 0} (f g : A → Bool) (l : List A) → has g (keep f l) ≡ has (λ x. f x && g x) l
unfolding has keep
has-keep f g [] = refl
has-keep f g (x ∷ xs) = by_test (f x) (λ t. rw t (ap (λ z. g x || z) (has-keep f g xs))) (λ t. rw t (has-keep f g xs))

module _ (s : State) (ks ls cs os : List ℕ) (fk : Fit ks) (fl : Fit ls) (t : Started s ks ls cs os) (r : ℕ) where
  abbrev v : Store
  v = view s ks ls cs os

  abbrev low : ℕ
  low = low_of s ks os r

  abbrev high : ℕ
  high = high_of s ks os r

  -- they are those of 01
  pub trusted_is : trusted_in ks cs os low (high - low) ≡ keep (is_trusted v) (places_in v r)
  unfolding test_of chosen
  trusted_is =
      picked_same os (trusted_at ks cs) (is_trusted v) low (high - low) (λ j l. test_is s ks ls cs os fk fl t (place_at os (low + j)) (round_used s ks ls cs os fk fl t r (low + j) (omega arith)) test.Trusted)
      ∙ (sym (keep-between (is_trusted v) os low (high - low)) ∙ ap (keep (is_trusted v)) (sym (places_in_lem s ks ls cs os fk fl t r)))
