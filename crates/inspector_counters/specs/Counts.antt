-- The counts of all authors by one pass over a round (01: stats.rs).
use Rattle.std.specs.Prelude.{ℕ, ◌+◌, ◌<◌, ◌≤◌, ◌≡◌, refl, List, Bool, get_or, set, replicate}
use Rattle.std.proofs.Common.{sym, ap, ◌∙◌, arith, add-one, length-set, get_or-set_same, get_or-set_other, eq-eqb, ne_eqb}
use Rattle.std.proofs.Math.Path.{subst}
use Rattle.std.proofs.Math.ListN.{length, length-replicate, get_or-replicate}
use Rattle.laws.specs.Test.{by_test, same_or, and_no, and_yes}
use Rattle.laws.specs.Scan.{those, those-yes, those_no, those_most}
use Rattle.spec.specs.Inspect.{one}
use Rattle.models.specs.Tables.{author_at, place_at}
use Rattle.inspector_counters.specs.Tests.{version_at, inspected, chosen, passes}
use Rattle.inspector_counters.specs.Count.{passes_at}
use Rattle.inspector_counters.specs.declared.tests.PointTest.{PointTest}
use Rattle.inspector_counters.specs.declared.tests.PointTest.TheVariants.{Found, Valid, Proved, TransInvalid, Invalid, IllFormed}
use Rattle.inspector_counters.specs.declared.tests.Passed.{Passed}
use Rattle.inspector_counters.specs.declared.tests.Version.{Version}
use Rattle.inspector_counters.specs.declared.counts.PointCounts.{PointCounts}

abbrev pub no_counts : PointCounts
no_counts = record { found = 0; valid = 0; proved = 0; trans_invalid = 0; invalid = 0; ill_formed = 0 }

-- one version more
unfoldable pub counting : PointCounts → Passed → PointCounts
counting c x = record {
  found = c.found + one x.found;
  valid = c.valid + one x.valid;
  proved = c.proved + one x.proved;
  trans_invalid = c.trans_invalid + one x.trans_invalid;
  invalid = c.invalid + one x.invalid;
  ill_formed = c.ill_formed + one x.ill_formed;
}

-- there is room for it
pub record Few (c : PointCounts) : Type 0 where
  pub found : c.found < 65535
  pub valid : c.valid < 65535
  pub proved : c.proved < 65535
  pub trans_invalid : c.trans_invalid < 65535
  pub invalid : c.invalid < 65535
  pub ill_formed : c.ill_formed < 65535

-- six numbers, by test
abbrev pub by_tests : (PointTest → ℕ) → PointCounts
by_tests n = record { found = n Found; valid = n Valid; proved = n Proved; trans_invalid = n TransInvalid; invalid = n Invalid; ill_formed = n IllFormed }

-- of the first k positions from low on, for the author a
unfoldable pub counts_to : List ℕ → List ℕ → List ℕ → ℕ → ℕ → ℕ → PointCounts
counts_to ks cs os low a k = by_tests (λ w. length (those k (passes_at ks cs os a w low)))

-- the cells hold those of the authors below 32
pub record Counted (ks cs os : List ℕ) (low k : ℕ) (l : List PointCounts) : Type 0 where
  pub size : length l ≡ 32
  pub cells : (a : ℕ) → a < 32 → get_or l a no_counts ≡ counts_to ks cs os low a k

-- ---- the steps of the code

-- of one position more
those-add : (k : ℕ) (f : ℕ → Bool) (b : Bool) → f k ≡ b → length (those (k + 1) f) ≡ length (those k f) + one b
those-add k f b e =
    rw (add-one k)
    (by_test (f k)
    (λ t. those-yes k f t ∙ (sym (add-one _) ∙ ap (λ x. length (those k f) + one x) (sym t ∙ e)))
    (λ t. those_no k f t ∙ (none _ ∙ ap (λ x. length (those k f) + one x) (sym t ∙ e))))
  where
    none : (n : ℕ) → n ≡ n + 0
    none n = omega arith

-- six sums
pub counting_is : (c : PointCounts) (x : Passed) (f v p t i l : ℕ) → f ≡ c.found + one x.found → v ≡ c.valid + one x.valid → p ≡ c.proved + one x.proved
    → t ≡ c.trans_invalid + one x.trans_invalid → i ≡ c.invalid + one x.invalid → l ≡ c.ill_formed + one x.ill_formed
    → record { found = f; valid = v; proved = p; trans_invalid = t; invalid = i; ill_formed = l } ≡ counting c x
unfolding counting
counting_is c x f v p t i l a b d e g h = λ j. record { found = a j; valid = b j; proved = d j; trans_invalid = e j; invalid = g j; ill_formed = h j }

module _ (ks cs os : List ℕ) (low : ℕ) where
  pub counted_start : (c : PointCounts) → c ≡ no_counts → Counted ks cs os low 0 (replicate 32 c)
  unfolding counts_to those
  counted_start c e = record { size = length-replicate {A = PointCounts} 32 c; cells = λ a l. get_or-replicate {A = PointCounts} 32 a c no_counts l ∙ e }

  pub counted_end : (l : List PointCounts) (k n : ℕ) → Counted ks cs os low k l → k ≡ n → Counted ks cs os low n l
  counted_end l k n h e = rw e at h

  -- a cell has room
  pub cell-few : (k a : ℕ) (c : PointCounts) → k < 65535 → c ≡ counts_to ks cs os low a k → Few c
  unfolding counts_to
  cell-few k a c l e = subst Few (sym e) (record {
    found = few Found;
    valid = few Valid;
    proved = few Proved;
    trans_invalid = few TransInvalid;
    invalid = few Invalid;
    ill_formed = few IllFormed;
  })
    where
      few : (w : PointTest) → length (those k (passes_at ks cs os a w low)) < 65535
      few w = omega (arith, l, those_most k (passes_at ks cs os a w low))

  module _ (k q : ℕ) (at : q ≡ place_at os (low + k)) where
    -- the author's counts
    own : counts_to ks cs os low (author_at ks q) (k + 1) ≡ counting (counts_to ks cs os low (author_at ks q) k) (inspected (version_at ks cs q))
    unfolding counts_to counting passes_at passes chosen
    own = λ i. record {
      found = by Found i;
      valid = by Valid i;
      proved = by Proved i;
      trans_invalid = by TransInvalid i;
      invalid = by Invalid i;
      ill_formed = by IllFormed i;
    }
      where
        by : (w : PointTest) → length (those (k + 1) (passes_at ks cs os (author_at ks q) w low)) ≡ length (those k (passes_at ks cs os (author_at ks q) w low)) + one (chosen w (inspected (version_at ks cs q)))
        by w = those-add k (passes_at ks cs os (author_at ks q) w low) (chosen w (inspected (version_at ks cs q))) (ap (passes ks cs (author_at ks q) w) (sym at) ∙ and_yes (eq-eqb (author_at ks q) (author_at ks q) refl) refl)

    -- another's
    other : (a : ℕ) → (author_at ks q ≡ a → ⊥) → counts_to ks cs os low a (k + 1) ≡ counts_to ks cs os low a k
    unfolding counts_to passes_at passes
    other a d = λ i. by_tests (λ w. none w i)
      where
        none : (w : PointTest) → length (those (k + 1) (passes_at ks cs os a w low)) ≡ length (those k (passes_at ks cs os a w low))
        none w = rw (add-one k) (those_no k (passes_at ks cs os a w low) (ap (passes ks cs a w) (sym at) ∙ and_no _ (ne_eqb _ _ d)))

    module _ (l r : List PointCounts) (h : Counted ks cs os low k l) where
      -- an author below 32
      pub counted-yes : (a : ℕ) (y : Version) (p : Passed) (x : PointCounts) → a ≡ author_at ks q → a < 32 → y ≡ version_at ks cs q → p ≡ inspected y → x ≡ counting (get_or l a no_counts) p → r ≡ set l a x
          → Counted ks cs os low (k + 1) r
      counted-yes a y p x e m v u f g =
          record { size = ap length g ∙ (length-set l a x ∙ h.size); cells = λ b n. ap (λ (z : List PointCounts). get_or z b no_counts) g ∙ same_or a b (same b) (apart b n) }
        where
          same : (b : ℕ) → a ≡ b → get_or (set l a x) b no_counts ≡ counts_to ks cs os low b (k + 1)
          same b d =
              ap (λ (z : ℕ). get_or (set l a x) z no_counts) (sym d)
              ∙ (get_or-set_same l a x no_counts (omega (arith, m, h.size))
              ∙ (f ∙ (ap (counting (get_or l a no_counts)) (u ∙ ap inspected v) ∙ (ap (λ (z : PointCounts). counting z (inspected (version_at ks cs q))) (h.cells a m ∙ ap (λ (z : ℕ). counts_to ks cs os low z k) e)
              ∙ (sym own ∙ ap (λ (z : ℕ). counts_to ks cs os low z (k + 1)) (sym e ∙ d))))))

          apart : (b : ℕ) → b < 32 → (a ≡ b → ⊥) → get_or (set l a x) b no_counts ≡ counts_to ks cs os low b (k + 1)
          apart b n d = get_or-set_other l a b x no_counts (λ y. d (sym y)) ∙ (h.cells b n ∙ sym (other b (λ y. d (e ∙ y))))

      -- another number
      pub counted_no : (a : ℕ) → a ≡ author_at ks q → 32 ≤ a → r ≡ l → Counted ks cs os low (k + 1) r
      counted_no a e m g = record {
        size = ap length g ∙ h.size;
        cells = λ b n. ap (λ (z : List PointCounts). get_or z b no_counts) g ∙ (h.cells b n ∙ sym (other b (λ y. omega (arith, e, y, m, n))));
      }
