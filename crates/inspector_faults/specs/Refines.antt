-- The faults that the code sends are those of 01 (01: inspector.rs, `take_events`).
use Rattle.std.specs.Prelude.{ℕ, zero, suc, ◌+◌, ◌-◌, ◌≡◌, List, ◌++◌}
use Rattle.std.proofs.Math.Path.{refl, ap₂}
use Rattle.std.proofs.Common.{sym, ap, ◌∙◌, arith}
use Rattle.laws.specs.Test.{le_or}
use Rattle.laws.specs.Lists.{up_to}
use Rattle.spec.specs.Store.{Store}
use Rattle.spec.specs.Inspect.{is_trans_invalid, is_invalid, is_ill_formed, InspectedRound, shown, Event, singles, equivocations, over}
use Rattle.spec.specs.Inspection.{first_shown, inspected_round, over_none, over-more}
use Rattle.models.specs.Digest.{Fit}
use Rattle.commit_state.specs.declared.state.State.{State}
use Rattle.tables_test.specs.View.{view}
use Rattle.tables_test.specs.Refines.{Started}
use Rattle.inspector_counters.specs.Places.{low_of, high_of}
use Rattle.inspector_counters.specs.Tests.{test_of}
use Rattle.dag_round_order.specs.Span.{span_of}
use Rattle.inspector_events.specs.Passing.{upto_same}
use Rattle.inspector_faults.specs.Faults.{kind_of, test_for, by_single, fault_of, round_faults}
use Rattle.inspector_events.specs.Refines.{singles_is, fork_is}
use Rattle.inspector_faults.specs.declared.Fault.{Fault}
use Rattle.inspector_faults.specs.declared.Fault.TheVariants as fault

-- the events of this fault by the author a, of a round of 01
unfoldable pub faults : Fault → Store → InspectedRound → ℕ → List Event
faults f v x a = by_single f (singles (kind_of f) (test_of (test_for f)) v x a) (equivocations v x a)

-- of all rounds shown, round by round
pub over-rounds : (v : Store) (f : InspectedRound → ℕ → List Event) (b : ℕ) → over f (shown v b) ≡ up_to (b - first_shown v) (λ j. up_to 32 (f (inspected_round v (first_shown v + j))))
unfolding up_to
over-rounds v f b =
    le_or b (first_shown v)
    (λ l. let e : b - first_shown v ≡ 0 = omega arith in over_none v f b l ∙ rw e refl)
    (λ l. let e : first_shown v + (b - first_shown v) ≡ b = omega arith in ap (λ x. over f (shown v x)) (sym e) ∙ go (b - first_shown v))
  where
    start : first_shown v + 0 ≡ first_shown v
    start = omega arith

    more : (k : ℕ) → first_shown v + suc k ≡ suc (first_shown v + k)
    more k = omega arith

    go : (k : ℕ) → over f (shown v (first_shown v + k)) ≡ up_to k (λ j. up_to 32 (f (inspected_round v (first_shown v + j))))
    go zero = over_none v f (first_shown v + 0) (omega (arith, start))
    go (suc k) = ap (λ x. over f (shown v x)) (more k) ∙ (over-more v f (first_shown v + k) (omega arith) ∙ ap (λ z. z ++ up_to 32 (f (inspected_round v (first_shown v + k)))) (go k))

module _ (s : State) (ks ls cs os : List ℕ) (fk : Fit ks) (fl : Fit ls) (t : Started s ks ls cs os) where
  -- the store
  abbrev v : Store
  v = view s ks ls cs os

  module _ (r : ℕ) where
    -- the first position of the round
    abbrev low : ℕ
    low = low_of s ks os r

    -- the first above it
    abbrev high : ℕ
    high = high_of s ks os r

    module _ (x : InspectedRound) (e : x.round ≡ r) (a : ℕ) where
      fault_is : (f : Fault) → fault_of ks cs os low (high - low) r f a ≡ faults f v x a
      unfolding fault_of faults
      fault_is f = ap₂ (by_single f) (singles_is s ks ls cs os fk fl t r x e a (kind_of f) (test_for f)) (fork_is s ks ls cs os fk fl t r x e a)

    -- of a round, by rising author
    round_is : (f : Fault) → round_faults ks cs os s.count f r ≡ up_to 32 (faults f v (inspected_round v r))
    unfolding round_faults span_of
    round_is f = upto_same 32 (fault_of ks cs os low (high - low) r f) (faults f v (inspected_round v r)) (λ a l. fault_is (inspected_round v r) refl a f)

  module _ (b : ℕ) where
    -- of all rounds shown
    rounds_are : (f : Fault) → up_to (b - first_shown v) (λ j. round_faults ks cs os s.count f (first_shown v + j)) ≡ over (faults f v) (shown v b)
    rounds_are f =
        upto_same (b - first_shown v) (λ j. round_faults ks cs os s.count f (first_shown v + j)) (λ j. up_to 32 (faults f v (inspected_round v (first_shown v + j)))) (λ j l. round_is (first_shown v + j) f)
        ∙ sym (over-rounds v (faults f v) b)

    -- the four faults
    pub trans_invalid_are : up_to (b - first_shown v) (λ j. round_faults ks cs os s.count fault.TransInvalid (first_shown v + j)) ≡ over (singles 1 is_trans_invalid v) (shown v b)
    unfolding faults by_single kind_of test_for test_of
    trans_invalid_are = rounds_are fault.TransInvalid

    pub invalid_are : up_to (b - first_shown v) (λ j. round_faults ks cs os s.count fault.Invalid (first_shown v + j)) ≡ over (singles 2 is_invalid v) (shown v b)
    unfolding faults by_single kind_of test_for test_of
    invalid_are = rounds_are fault.Invalid

    pub ill_formed_are : up_to (b - first_shown v) (λ j. round_faults ks cs os s.count fault.IllFormed (first_shown v + j)) ≡ over (singles 3 is_ill_formed v) (shown v b)
    unfolding faults by_single kind_of test_for test_of
    ill_formed_are = rounds_are fault.IllFormed

    pub equivocations_are : up_to (b - first_shown v) (λ j. round_faults ks cs os s.count fault.Equivocated (first_shown v + j)) ≡ over (equivocations v) (shown v b)
    unfolding faults by_single
    equivocations_are = rounds_are fault.Equivocated
