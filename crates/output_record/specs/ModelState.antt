-- The state after an anchor (01: commit/mod.rs).
use Prim.Native.Nat.{ℕ, zero, suc, ◌+◌, ◌-◌, ◌%◌, ◌≤◌, ◌<◌}
use Rattle.std.specs.Prelude.{◌≡◌, refl, Bool, true, false, cond, eqb, ltb, set, length}
use Rattle.std.proofs.Math.Path.{sym, ap}
use Rattle.std.proofs.Common.{◌∙◌, arith, add-one, eq-eqb, ne_eqb, lt-ltb}
use Rattle.std.proofs.Math.Option.{none, some}
use Rattle.laws.specs.Test.{same_or, le_or}
use Rattle.spec.specs.History.{use_proof, gap_asked}
use Rattle.commit_state.specs.View.{record_of, round_of, rounds_of, option_of, gap_of}
use Rattle.commit_state.specs.Reads.{window_in, window-below, window_above, record_at, record_off}
use Rattle.commit_state.specs.declared.state.State.{State}
use Rattle.output_record.specs.Model.{is_first_of}

-- of rounds a and p, by this author
unfoldable pub after_state : State → ℕ → ℕ → ℕ → State
after_state s a p author = record {
  phase = s.phase;
  count = s.count;
  genesis = s.genesis;
  commit_history_rounds = s.commit_history_rounds;
  deduplicate_rounds = s.deduplicate_rounds;
  bottom = s.bottom;
  top = s.top;
  last_committed_proof = record { 0 = p + 1 };
  last_anchor = record { 0 = a + 1 };
  full_history_bottom = s.full_history_bottom;
  first_executable = s.first_executable;
  emit_first_after_gap = cond (is_first_of s a) 0 s.emit_first_after_gap;
  rounds = set s.rounds (p % 512) (record { peers = (record_of s.rounds p).peers; used_anchor_proof = author + 1 });
  memory = s.memory;
}

-- ---- what the store reads of it

-- a round that there is
pub option_is : (x : ℕ) → option_of (x + 1) ≡ some x
unfolding option_of
option_is x = rw (add-one x, option_of) refl

-- the gap question was put
pub asked_is : (g : ℕ) → gap_asked (gap_of g) ≡ ltb 1 g
unfolding gap_asked gap_of
asked_is zero = refl
asked_is (suc zero) = refl
asked_is (suc (suc n)) = lt-ltb 0 (suc n) (omega arith) ∙ sym (lt-ltb 1 (suc (suc n)) (omega arith))

-- the gap flag, used up or as it was
pub gap_reads : (b : Bool) (g : ℕ) → gap_of (cond b 0 g) ≡ cond b none (gap_of g)
unfolding gap_of
gap_reads true g = refl
gap_reads false g = refl

module _ (s : State) (a p author : ℕ) (long : length s.rounds ≡ 512) (low : s.bottom.0 ≤ p) (high : p ≤ s.top.0) (few : s.top.0 - s.bottom.0 < 512) where
  -- the proof's round is used, the others stay
  pub after-rounds : (r : ℕ) → rounds_of (after_state s a p author) r ≡ cond (eqb r p) (use_proof (rounds_of s r) author) (rounds_of s r)
  unfolding after_state round_of use_proof option_of
  after-rounds r =
      let b : ℕ = s.bottom.0 in
      let t : ℕ = s.top.0 in
      same_or r p
      (λ e. rw (eq-eqb r p e, e, window_in s.rounds b t p low high)
      (window_in _ b t p low high ∙ (ap round_of (record_at s.rounds _ p long) ∙ ap (λ u. record { peers = (record_of s.rounds p).peers; used = u }) (option_is author))))
      (λ d. rw (ne_eqb r p d)
      (le_or b r
      (λ l. le_or r t
      (λ k. window_in _ b t r l k ∙ (ap round_of (record_off s.rounds _ p long r (λ u. d (omega arith))) ∙ sym (window_in s.rounds b t r l k)))
      (λ k. window_above _ b t r k ∙ sym (window_above s.rounds b t r k)))
      (λ l. window-below _ b t r l ∙ sym (window-below s.rounds b t r l))))
