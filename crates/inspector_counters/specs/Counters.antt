-- The counters of a peer at a round (01: stats.rs, `MempoolPeerCounters`).
use Rattle.std.specs.Prelude.{ℕ, zero, suc, ◌-◌, ◌<◌, ◌≤◌, ◌≡◌, List, Bool, false, cond, eqb, ltb, length, get_or}
use Rattle.std.proofs.Math.Path.{refl, ap}
use Rattle.std.proofs.Common.{sym, subst, ◌∙◌, arith, ne_eqb, le-leb}
use Rattle.laws.specs.Test.{both}
use Rattle.spec.specs.Store as store
use Rattle.spec.specs.Store.{Store}
use Rattle.spec.specs.Inspect.{one, holds, counted}
use Rattle.spec.specs.Inspection.{AtMost, counted_most}
use Rattle.models.specs.Digest.{Fit}
use Rattle.stats.specs.Counters.{counters_of, nine, Below, with_skipped, sum16-first}
use Rattle.stats.specs.declared.MempoolPeerCounters.{MempoolPeerCounters}
use Rattle.commit_state.specs.View.{option_of, window, round_of, record_of}
use Rattle.commit_state.specs.declared.state.State.{State}
use Rattle.tables_test.specs.View.{view}
use Rattle.tables_test.specs.Refines.{Started}
use Rattle.back_history.specs.Refines.{well}
use Rattle.inspector_counters.specs.Places.{low_of, high_of}
use Rattle.inspector_counters.specs.Tests.{test_of}
use Rattle.inspector_counters.specs.Count.{count_of}
use Rattle.inspector_counters.specs.Counts.{counts_to, no_counts, Counted}
use Rattle.inspector_counters.specs.declared.tests.PointTest.TheVariants.{Found, Valid, Proved, TransInvalid, Invalid, IllFormed}
use Rattle.inspector_counters.specs.declared.counts.PointCounts.{PointCounts}

-- from the counts of a peer's points, whether it was the leader, and the references skipped
unfoldable pub assembled : PointCounts → Bool → ℕ → MempoolPeerCounters
assembled c leader refs = nine (one leader) (one (eqb c.found 0)) (one (ltb 0 c.valid)) c.proved (c.found - 1) c.trans_invalid c.invalid c.ill_formed refs

-- the used mark u (the author plus 1, or 0) is the author a's
unfoldable pub leads : ℕ → ℕ → Bool
leads u a = cond (eqb u 0) false (eqb (u - 1) a)

-- it is 01's
pub leads_is : (u a : ℕ) → leads u a ≡ holds (option_of u) a
unfolding leads holds option_of
leads_is zero a = refl
leads_is (suc u) a = rw (ne_eqb (suc u) 0 (λ e. omega arith)) (ap (λ (x : ℕ). eqb x a) (less u))
  where
    less : (n : ℕ) → suc n - 1 ≡ n
    less n = omega arith

-- ---- the steps of the code

-- no used mark
pub leads-none : (u a : ℕ) → u ≡ 0 → false ≡ leads u a
unfolding leads
leads-none u a e = rw e refl

-- another
pub leads-some : (u a : ℕ) → (u ≡ 0 → ⊥) → eqb (u - 1) a ≡ leads u a
unfolding leads
leads-some u a d = rw (ne_eqb u 0 d) refl

-- the numbers from what the code computes, then the references skipped
pub assembled_is : (c : PointCounts) (leader : Bool) (refs w x y z : ℕ) (r : MempoolPeerCounters) → refs < 65536 → w ≡ one leader → x ≡ one (eqb c.found 0) → y ≡ one (ltb 0 c.valid) → z ≡ c.found - 1
    → r ≡ with_skipped (nine w x y c.proved z c.trans_invalid c.invalid c.ill_formed 0) refs → r ≡ assembled c leader refs
unfolding assembled with_skipped
assembled_is c leader refs w x y z r l e f g h k = k ∙ (λ i. nine (e i) (f i) (g i) c.proved (h i) c.trans_invalid c.invalid c.ill_formed (sum16-first refs l i))
