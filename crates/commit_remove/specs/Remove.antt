-- Committed rounds are removed (01: commit/mod.rs, `remove_committed`): "Remove tests 2, 23, 21."
use Rattle.std.specs.Prelude.{ℕ, zero, suc, ◌-◌, ◌<◌, ◌≤◌, max, min, ◌≡◌, List, Bool, not, cond, ltb, length}
use Rattle.std.proofs.Math.Path.{refl, sym, ap}
use Rattle.std.proofs.Common.{◌∙◌, arith}
use Rattle.std.proofs.Math.Bool.{true, false}
use Rattle.std.proofs.Math.Option.{Option}
use borrow.Author.Tests.{lt-ltb, le-ltb, not-true, not-false}
use Rattle.laws.specs.Bytes.{written}
use Rattle.spec.specs.Store.{Store, with_memory}
use Rattle.spec.specs.Rules.{counts_as_started}
use Rattle.spec.specs.Chain.{Out, bad, good, refuse}
use Rattle.spec.specs.Inspect.{inspected, memory_after, remove_bytes}
use Rattle.spec.specs.Calls as calls
use Rattle.spec.specs.Calls.{perform, is_start, buffer_of, done, new_bottom, beyond, removing, do_remove}
use Rattle.models.specs.Digest.{Fit}
use Rattle.models.specs.Refusal.{refusal_of, failed}
use Rattle.models.specs.declared.refusal.Refusal.TheVariants.{Number}
use Rattle.dag_round_keys.specs.Zero.{emptied}
use Rattle.dag_round_order.specs.Shift.{drained}
use Rattle.commit_state.specs.declared.state.Memory.{Memory}
use Rattle.commit_state.specs.declared.state.State.{State}
use Rattle.commit_state.specs.View.{option_of, conf_of, progress_of}
use Rattle.commit_state.specs.Back.{removed_state}
use Rattle.tables_test.specs.View.{view}
use Rattle.back_drain.specs.Model.{drain_bottom}
use Rattle.dag_round_order.specs.Span.{below}
use Rattle.back_drain.specs.Remove.{remove-view}
use Rattle.inspector_inspect.specs.After.{memory_left, memory_left_lem}
use Rattle.inspector_answer.specs.Answered.{Answered}
use Rattle.commit_answer.specs.declared.answer.Answer.TheVariants.{Done}
use Rattle.commit_answer.specs.declared.answer.Outcome.{Outcome}
use Rattle.commit_answer.specs.Answer.{answer_of, Tables, tables, view_of, Left, left, outcome_of, nothing_done, Did, refusal, unless_refused_with, tested, left-refused, left_passed, tested_no, tested_by, did_tested}
use Rattle.commit_rounds.specs.Drain.{drained_tables, drained_is}
use Rattle.models.specs.Refusal.{Check, no_refusal}

-- ---- the parts

-- the new bottom: H rounds below the round r
abbrev pub remove_bottom : State → ℕ → ℕ
remove_bottom s r = drain_bottom s (r - s.commit_history_rounds)

pub bottom_is : (s : State) (r x y z : ℕ) → x ≡ r - s.commit_history_rounds → y ≡ min x s.top.0 → z ≡ max s.bottom.0 y → z ≡ remove_bottom s r
bottom_is s r x y z e f g = g ∙ ap (max s.bottom.0) (f ∙ ap (λ (w : ℕ). min w s.top.0) e)

-- it is no higher than the top
pub bottom_low : (s : State) (r low : ℕ) → s.bottom.0 ≤ s.top.0 → low ≡ remove_bottom s r → low ≤ s.top.0
bottom_low s r low l e = omega arith

-- whether a round is beyond the last anchor, by its word: the anchor's round plus 1, or 0 for none
pub beyond-none : (w r : ℕ) → w ≡ 0 → true ≡ beyond (option_of w) r
unfolding beyond option_of
beyond-none w r e = rw e refl

pub beyond-some : (w r : ℕ) → (w ≡ 0 → ⊥) → ltb (w - 1) r ≡ beyond (option_of w) r
unfolding beyond option_of
beyond-some zero r n = absurd (n refl)
beyond-some (suc a) r n = let e : suc a - 1 ≡ a = omega arith in ap (λ (x : ℕ). ltb x r) e

-- the inspector's memory after the rounds of d below `low`
abbrev pub memory_left_of : Tables → ℕ → Memory
memory_left_of d low = memory_left d.state d.keys d.links d.certs d.order low

-- ---- the model

-- 23, 21 or none; n: the number of the answer's bytes
unfoldable pub remove_check : State → ℕ → List ℕ → ℕ → Check
remove_check s r b n = cond (beyond (option_of s.last_anchor.0) r) (failed 23) (cond (ltb (length b) n) (failed 21) no_refusal)

-- one law for each way out of it
module _ (s : State) (r : ℕ) (b : List ℕ) (n : ℕ) (x : Bool) (e : x ≡ beyond (option_of s.last_anchor.0) r) where
  check_beyond : x ≡ true → remove_check s r b n ≡ failed 23
  unfolding remove_check
  check_beyond t = rw (sym e ∙ t) refl

  check_short : x ≡ false → length b < n → remove_check s r b n ≡ failed 21
  unfolding remove_check
  check_short f l = rw (sym e ∙ f, lt-ltb (length b) n l) refl

  check_fits : x ≡ false → n ≤ length b → remove_check s r b n ≡ no_refusal
  unfolding remove_check
  check_fits f l = rw (sym e ∙ f, le-ltb (length b) n l) refl

module _ (since : Option ℕ) (r : ℕ) (b : List ℕ) (d : Tables) where
  -- what it leaves, if it isn't refused
  abbrev pub removed_left : Left
  removed_left = let low = remove_bottom d.state r in record {
    answer = Done;
    tables = drained_tables (λ x n. removed_state d.state x n (memory_left_of d low)) low d;
    buffer = written b 0 (remove_bytes (view_of d) low since);
  }

  -- what the call leaves
  abbrev pub remove_left : Left
  remove_left = unless_refused_with (tested (counts_as_started (view_of d)) (remove_check d.state r b (length (remove_bytes (view_of d) (remove_bottom d.state r) since)))) d b removed_left

-- ---- it is 01's

module _ (since : Option ℕ) (r : ℕ) (b : List ℕ) (d : Tables) where
  -- the store
  abbrev v : Store
  v = view_of d

  -- the new bottom
  abbrev low : ℕ
  low = remove_bottom d.state r

  -- the answer's bytes
  abbrev bytes : List ℕ
  bytes = remove_bytes v low since

  low_is : new_bottom v (r - v.conf.history_rounds) ≡ low
  unfolding view conf_of new_bottom
  low_is = refl

  last_is : v.progress.last_anchor ≡ option_of d.state.last_anchor.0
  unfolding view progress_of
  last_is = refl

  -- 01's outcome by its tests, for the new bottom x
  abbrev outcome_by : ℕ → Out (List ℕ) → calls.Outcome
  outcome_by x o = elim o [
    | bad n ↦ record { answer = calls.refused n 0; store = v; buffer = b }
    | good w ↦ record { answer = done; store = with_memory (calls.drained v x) (memory_after v v.memory (inspected v x)); buffer = written b 0 w }
  ]

  tests_are : do_remove v r since b ≡ outcome_by low (removing v r b bytes)
  unfolding do_remove
  tests_are = λ i. outcome_by (low_is i) (removing v r b (remove_bytes v (low_is i) since))

  remove_is : view_of (removed_left since r b d).tables ≡ with_memory (calls.drained v low) (memory_after v v.memory (inspected v low))
      → outcome_of (unless_refused_with (remove_check d.state r b (length bytes)) d b (removed_left since r b d)) ≡ do_remove v r since b
  unfolding remove_check removing refuse outcome_of answer_of refusal_of unless_refused_with
  remove_is e = by (beyond (option_of d.state.last_anchor.0) r) (ltb (length b) (length bytes)) ∙ sym (tests_are ∙ ap (λ (o : Option ℕ). outcome_by low (refuse (beyond o r) 23 (refuse (ltb (length b) (length bytes)) 21 (good bytes)))) last_is)
    where
      by : (x y : Bool) → outcome_of (unless_refused_with (cond x (failed 23) (cond y (failed 21) no_refusal)) d b (removed_left since r b d)) ≡ outcome_by low (refuse x 23 (refuse y 21 (good bytes)))
      by true y = refl
      by false true = refl
      by false false = λ i. record { answer = done; store = e i; buffer = written b 0 bytes }

  module _ (fk : Fit d.keys) (fl : Fit d.links) where
    -- the tables are 01's store
    store_is : counts_as_started v ≡ true → view_of (removed_left since r b d).tables ≡ with_memory (calls.drained v low) (memory_after v v.memory (inspected v low))
    store_is h =
        let (m, holds) = memory_left_lem d.state d.keys d.links d.certs d.order fk fl h low in
        remove-view d.state d.keys d.links d.certs d.order fk fl h low (omega arith) (memory_left_of d low) holds ∙ ap (with_memory (calls.drained v low)) m

    -- it does 01's call
    pub remove_did : (x : Left) → x ≡ remove_left since r b d → Did (calls.remove r since b) (remove_left since r b) d x
    unfolding is_start buffer_of perform nothing_done
    remove_did = did_tested (calls.remove r since b) (remove_left since r b) d (remove_check d.state r b (length bytes)) (removed_left since r b d) refl refl refl (λ h. remove_is (store_is h))

    -- ---- one law for each way out of the code; c: whether the tables count as started

    module _ (c : Bool) (e : c ≡ counts_as_started v) where
      -- 2
      pub says_unstarted : not c ≡ true → (o : Outcome) → o ≡ refusal d.state (Number 2) → Did (calls.remove r since b) (remove_left since r b) d (left o d.keys d.links d.certs d.order b)
      says_unstarted h o f = remove_did _ (left-refused _ d (removed_left since r b d) _ (tested_no _ _ c e h) o f)

      module _ (h : not c ≡ false) (x : Bool) (g : x ≡ beyond (option_of d.state.last_anchor.0) r) where
        -- 23
        pub says_beyond : x ≡ true → (o : Outcome) → o ≡ refusal d.state (Number 23) → Did (calls.remove r since b) (remove_left since r b) d (left o d.keys d.links d.certs d.order b)
        says_beyond t o f = remove_did _ (left-refused _ d (removed_left since r b d) _ (tested_by _ _ c e h _ (check_beyond d.state r b (length bytes) x g t)) o f)

        -- the answer, for the code's new bottom
        module _ (n : x ≡ false) (lowest : ℕ) (l : lowest ≡ low) (fits : Bool) (b' : List ℕ) (a : Answered v lowest since b fits b') where
          -- its length, for the tables'
          length_is : length (remove_bytes v lowest since) ≡ length bytes
          length_is = ap (λ (y : ℕ). length (remove_bytes v y since)) l

          -- 21
          pub says_short : not fits ≡ true → (o : Outcome) → o ≡ refusal d.state (Number 21) → Did (calls.remove r since b) (remove_left since r b) d (left o d.keys d.links d.certs d.order b')
          says_short t o f =
              let (k, same) = a.short (not-true fits t) in
              remove_did _ (ap (λ (y : List ℕ). left o d.keys d.links d.certs d.order y) same ∙ left-refused _ d (removed_left since r b d) _ (tested_by _ _ c e h _ (check_short d.state r b (length bytes) x g n (omega (arith, k, length_is)))) o f)

          -- done
          pub says_done : not fits ≡ false → (k : ℕ) → k ≡ below d.keys d.order d.state.count lowest → (m : Memory) → m ≡ memory_left_of d lowest → (t : State) → t ≡ removed_state d.state lowest (d.state.count - k) m → {ks ls cs os : List ℕ}
              → ks ≡ emptied d.keys 8 d.order k → ls ≡ emptied d.links 328 d.order k → cs ≡ emptied d.certs 1 d.order k → os ≡ drained d.order d.state.count k
              → Did (calls.remove r since b) (remove_left since r b) d (record { answer = Done; tables = tables t ks ls cs os; buffer = b' })
          says_done t k below_is m memory_is u f w y z q =
              let (room, same) = a.whole (not-false fits t) in
              let whole : b' ≡ written b 0 bytes = same ∙ ap (λ (i : ℕ). written b 0 (remove_bytes v i since)) l in
              let after = drained_is (λ i j. removed_state d.state i j (memory_left_of d low)) low d lowest k l below_is u (f ∙ ap (removed_state d.state lowest (d.state.count - k)) (memory_is ∙ ap (memory_left_of d) l)) w y z q in
              remove_did _ (left_passed _ d (removed_left since r b d) b (tested_by _ _ c e h _ (check_fits d.state r b (length bytes) x g n (omega (arith, room, length_is)))) _ (λ i. record { answer = Done; tables = after i; buffer = whole i }))
