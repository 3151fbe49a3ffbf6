-- What the store reads of the state after each call.
use Prim.Native.Nat.{ℕ, zero, suc, ◌+◌, ◌%◌, ◌<◌, ◌≤◌}
use Rattle.std.specs.Prelude.{◌≡◌, List, Bool, cond, eqb, ltb, replicate, set}
use Rattle.std.proofs.Math.Path.{refl, ap}
use Rattle.std.proofs.Common.{sym, ◌∙◌, arith, add-one, eq-eqb, ne_eqb, le-leb, lt-ltb, le-ltb}
use Rattle.std.proofs.Math.Bool.{true, false}
use Rattle.std.proofs.Math.Option.{none, some}
use Rattle.std.proofs.Math.Dec.{leb}
use Rattle.std.proofs.Math.ListN.{length, length-replicate}
use Rattle.std.proofs.lemmas.List.{get_or-replicate}
use Rattle.std.proofs.Math.Seq.{get_or-set_same, get_or-set_other}
use Rattle.std.proofs.lemmas.Bool.{lt-leb}
use Rattle.laws.specs.Test.{same_or, le_or, both, and_no, and_yes}
use Rattle.spec.specs.Store as store
use Rattle.spec.specs.Store.{no_round}
use Rattle.spec.specs.Calls as calls
use Rattle.spec.specs.Calls.{begun, full_bottom_at}
use Rattle.commit_state.specs.declared.state.Memory.{Memory}
use Rattle.commit_state.specs.declared.state.RoundRecord.{RoundRecord}
use Rattle.commit_state.specs.declared.state.State.{State}
use Rattle.commit_state.specs.declared.back.StartArgs.{StartArgs}
use Rattle.commit_state.specs.State.{no_record}
use Rattle.commit_state.specs.View.{option_of, gap_of, round_of, record_of, window, rounds_of, progress_of}
use Rattle.commit_state.specs.Back.{used_of, used_reads, full_bottom, first_of, armed_of, begun_state, cleared_state, extended_state}

module _ (xs : List RoundRecord) (b t r : ℕ) where
  pub window_in : b ≤ r → r ≤ t → window xs b t r ≡ round_of (record_of xs r)
  unfolding window
  window_in l m = rw (both (le-leb b r l) (le-leb r t m)) refl

  pub window-below : r < b → window xs b t r ≡ no_round
  unfolding window
  window-below l = rw (and_no (leb r t) (lt-leb b r l)) refl

  pub window_above : t < r → window xs b t r ≡ no_round
  unfolding window
  window_above l = le_or b r (λ m. rw (and_yes {b = leb r t} (le-leb b r m) (lt-leb r t l)) refl) (λ m. window-below m)

-- a record put at the place of round n
module _ (xs : List RoundRecord) (x : RoundRecord) (n : ℕ) (l : length xs ≡ 512) where
  pub record_at : record_of (set xs (n % 512) x) n ≡ x
  unfolding record_of
  record_at = get_or-set_same xs (n % 512) x no_record (omega (arith, l))

  pub record_off : (r : ℕ) → (r % 512 ≡ n % 512 → ⊥) → record_of (set xs (n % 512) x) r ≡ record_of xs r
  unfolding record_of
  record_off r d = get_or-set_other xs (n % 512) (r % 512) x no_record d

  -- one round more, above the top
  pub window_more : (b t r : ℕ) → n ≡ suc t → b ≤ t → n < b + 512 → window (set xs (n % 512) x) b n r ≡ cond (eqb r n) (round_of x) (window xs b t r)
  window_more b t r e k m =
      same_or r n
      (λ s. rw (eq-eqb r n s, s) (window_in _ b n n (omega arith) (omega arith) ∙ ap round_of record_at))
      (λ d. rw (ne_eqb r n d)
      (le_or b r
      (λ p. le_or r t
      (λ q. window_in _ b n r p (omega arith) ∙ (ap round_of (record_off r (λ u. d (omega arith))) ∙ sym (window_in xs b t r p q)))
      (λ q. window_above _ b n r (omega arith) ∙ sym (window_above xs b t r q)))
      (λ p. window-below _ b n r p ∙ sym (window-below xs b t r p))))

-- rounds below b are gone
pub window-cut : (xs : List RoundRecord) (a b t r : ℕ) → a ≤ b → window xs b t r ≡ cond (ltb r b) no_round (window xs a t r)
window-cut xs a b t r l =
    le_or b r
    (λ p. rw (le-ltb r b p) (le_or r t (λ q. window_in xs b t r p q ∙ sym (window_in xs a t r (omega arith) q)) (λ q. window_above xs b t r q ∙ sym (window_above xs a t r q))))
    (λ p. rw (lt-ltb r b p) (window-below xs b t r p))

-- ---- start

-- what a start takes, in 01's terms
abbrev pub start_args_of : StartArgs → calls.StartArgs
start_args_of b = record {
  conf = record { genesis = b.genesis.0; history_rounds = b.commit_history_rounds; deduplicate_rounds = b.deduplicate_rounds };
  bottom = b.bottom.0;
  peers = b.peers;
  after_gap = b.after_gap;
  used = used_of b.used;
}

module _ (m : Memory) (b : StartArgs) (n : ℕ) (k : store.Memory) where
  pub begun-rounds : (r : ℕ) → rounds_of (begun_state m b) r ≡ (begun n k (start_args_of b)).rounds r
  unfolding begun_state begun round_of
  begun-rounds r =
      let c : ℕ = b.bottom.0 in
      let l : length (replicate 512 no_record) ≡ 512 = length-replicate {A = RoundRecord} 512 no_record in
      same_or r c
      (λ e. rw (eq-eqb r c e, e) (window_in _ c c c (omega arith) (omega arith) ∙ (ap round_of (record_at (replicate 512 no_record) _ c l) ∙ ap (λ u. record { peers = b.peers; used = u }) (used_reads b.used))))
      (λ d. rw (ne_eqb r c d) (le_or c r (λ p. window_above _ c c r (omega arith)) (λ p. window-below _ c c r p)))

  armed-reads : (g : Bool) → gap_of (armed_of g) ≡ cond g (some false) none
  unfolding gap_of armed_of
  armed-reads true = refl
  armed-reads false = refl

  pub begun_progress : progress_of (begun_state m b) ≡ (begun n k (start_args_of b)).progress
  unfolding begun_state begun progress_of full_bottom full_bottom_at first_of option_of
  begun_progress = rw (armed-reads b.after_gap) refl

-- ---- reset

pub cleared-rounds : (s : State) (r : ℕ) → rounds_of (cleared_state s) r ≡ no_round
unfolding cleared_state round_of record_of option_of
cleared-rounds s zero = window_in (replicate 512 no_record) 0 0 0 (omega arith) (omega arith) ∙ ap round_of (get_or-replicate {A = RoundRecord} 512 0 no_record no_record (omega arith))
cleared-rounds s (suc r) = window_above (replicate 512 no_record) 0 0 (suc r) (omega arith)

-- ---- rounds

pub extended_rounds : (s : State) (peers r : ℕ) → length s.rounds ≡ 512 → s.bottom.0 ≤ s.top.0 → suc s.top.0 < s.bottom.0 + 512
    → rounds_of (extended_state s peers) r ≡ cond (eqb r (suc s.top.0)) (record { peers = peers; used = none }) (rounds_of s r)
unfolding extended_state round_of option_of
extended_rounds s peers r l k m = rw (add-one s.top.0) (window_more s.rounds (record { peers = peers; used_anchor_proof = 0 }) (suc s.top.0) l s.bottom.0 s.top.0 r refl k m)
