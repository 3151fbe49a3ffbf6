-- What the calls leave of the state.
use Rattle.std.specs.Prelude.{ℕ, ◌+◌, ◌%◌, ◌<◌, ◌≤◌, ◌≡◌, refl, Bool, true, cond, leb, ltb, replicate, set}
use Rattle.std.proofs.Math.Option.{Option, none, some}
use Rattle.std.proofs.Common.{add-one, le-leb, ltb-true, arith}
use Rattle.std.proofs.lemmas.Bool.{lt-leb}
use Rattle.laws.specs.Test.{le_or}
use Rattle.spec.specs.Rules.{used_ok}
use Rattle.commit_state.specs.View.{option_of}
use Rattle.models.specs.declared.parts.Round.{Round}
use Rattle.models.specs.declared.parts.OptionRound.{OptionRound}
use Rattle.commit_state.specs.declared.state.Memory.{Memory}
use Rattle.commit_state.specs.declared.state.State.{State}
use Rattle.commit_state.specs.State.{no_memory, no_record}
use Rattle.commit_state.specs.declared.back.StartArgs.{StartArgs}
use Rattle.std.specs.Prelude as rust
use Rattle.std.specs.Prelude.{None, Some}

unfoldable pub used_of : (rust.Option ℕ) → Option ℕ
used_of None = none
used_of (Some a) = some a

-- an author's number in a round record
unfoldable pub used_word : (rust.Option ℕ) → ℕ
used_word None = 0
used_word (Some a) = a + 1

pub used_reads : (u : (rust.Option ℕ)) → option_of (used_word u) ≡ used_of u
unfolding used_word used_of option_of
used_reads None = refl
used_reads (Some a) = rw (add-one a) refl

-- by cases
pub ok_nobody : (u : (rust.Option ℕ)) → u ≡ None → true ≡ used_ok (used_of u)
unfolding used_ok used_of
ok_nobody u e = rw e refl

pub ok_peer : (u : (rust.Option ℕ)) (a : ℕ) → u ≡ Some a → ltb a 32 ≡ used_ok (used_of u)
unfolding used_ok used_of
ok_peer u a e = rw e refl

pub word_nobody : (u : (rust.Option ℕ)) → u ≡ None → 0 ≡ used_word u
unfolding used_word
word_nobody u e = rw e refl

pub word-peer : (u : (rust.Option ℕ)) (a : ℕ) → u ≡ Some a → a + 1 ≡ used_word u
unfolding used_word
word-peer u a e = rw e refl

pub used_small : (u : (rust.Option ℕ)) (a : ℕ) → used_ok (used_of u) ≡ true → u ≡ Some a → a < 32
unfolding used_ok used_of
used_small u a h e = ltb-true a 32 (rw e at h)

-- the full-history bottom of a start
unfoldable pub full_bottom : ℕ → ℕ → ℕ → ℕ
full_bottom g h b = cond (leb b (g + h)) b (b + h)

pub full_low : (g h b : ℕ) → b ≤ g + h → b ≡ full_bottom g h b
unfolding full_bottom
full_low g h b l = rw (le-leb b (g + h) l) refl

pub full_high : (g h b : ℕ) → g + h < b → b + h ≡ full_bottom g h b
unfolding full_bottom
full_high g h b l = rw (lt-leb b (g + h) l) refl

pub full_bound : (g h b : ℕ) → full_bottom g h b ≤ b + h
unfolding full_bottom
full_bound g h b = le_or b (g + h) (λ l. rw (le-leb b (g + h) l) (omega arith)) (λ l. rw (lt-leb b (g + h) l) (omega arith))

-- the first executable round of a start, and the number of its gap flag
unfoldable pub first_of : Bool → ℕ → ℕ → ℕ → ℕ
first_of gap full d b = cond gap (full + d) b

unfoldable pub armed_of : Bool → ℕ
armed_of gap = cond gap 1 0

abbrev no_round : OptionRound
no_round = record { 0 = 0 }

-- ---- the state after each call

-- what a start that isn't refused is given
abbrev pub Starts : StartArgs → Type 0
Starts b = (b.genesis.0 ≤ 4_000_000_000) × (b.commit_history_rounds ≤ 255) × (b.deduplicate_rounds ≤ 65_535) × (b.bottom.0 ≤ 4_000_000_000) × (used_ok (used_of b.used) ≡ true)

-- full, first, gap, word: the bottom of full history, the first executable round, the gap flag, the word of the used author
abbrev begun_by : Memory → StartArgs → ℕ → ℕ → ℕ → ℕ → State
begun_by m b full first gap word = record {
  phase = 1;
  count = 0;
  genesis = b.genesis;
  commit_history_rounds = b.commit_history_rounds;
  deduplicate_rounds = b.deduplicate_rounds;
  bottom = b.bottom;
  top = b.bottom;
  last_committed_proof = no_round;
  last_anchor = no_round;
  full_history_bottom = record { 0 = full };
  first_executable = record { 0 = first };
  emit_first_after_gap = gap;
  rounds = set (replicate 512 no_record) (b.bottom.0 % 512) (record { peers = b.peers; used_anchor_proof = word });
  memory = m;
}

unfoldable pub begun_state : Memory → StartArgs → State
begun_state m b =
    let full = full_bottom b.genesis.0 b.commit_history_rounds b.bottom.0 in
    begun_by m b full (first_of b.after_gap full b.deduplicate_rounds b.bottom.0) (armed_of b.after_gap) (used_word b.used)

pub begun_is : (m : Memory) (b : StartArgs) (full first gap word : ℕ) → word ≡ used_word b.used → full ≡ full_bottom b.genesis.0 b.commit_history_rounds b.bottom.0
    → first ≡ first_of b.after_gap full b.deduplicate_rounds b.bottom.0 → gap ≡ armed_of b.after_gap → begun_by m b full first gap word ≡ begun_state m b
unfolding begun_state
begun_is m b full first gap word u p q r = rw (q, r, p, u) refl

abbrev zero_round : Round
zero_round = record { 0 = 0 }

-- all but the phase and the inspector's memory is 0
abbrev pub empty_state : ℕ → Memory → State
empty_state phase m = record {
  phase = phase;
  count = 0;
  genesis = zero_round;
  commit_history_rounds = 0;
  deduplicate_rounds = 0;
  bottom = zero_round;
  top = zero_round;
  last_committed_proof = no_round;
  last_anchor = no_round;
  full_history_bottom = zero_round;
  first_executable = zero_round;
  emit_first_after_gap = 0;
  rounds = replicate 512 no_record;
  memory = m;
}

-- a state that no call has written
unfoldable pub unstarted_state : State
unstarted_state = empty_state 0 no_memory

unfoldable pub cleared_state : State → State
cleared_state s = empty_state 2 s.memory

unfoldable pub extended_state : State → ℕ → State
extended_state s peers = record {
  phase = s.phase;
  count = s.count;
  genesis = s.genesis;
  commit_history_rounds = s.commit_history_rounds;
  deduplicate_rounds = s.deduplicate_rounds;
  bottom = s.bottom;
  top = record { 0 = s.top.0 + 1 };
  last_committed_proof = s.last_committed_proof;
  last_anchor = s.last_anchor;
  full_history_bottom = s.full_history_bottom;
  first_executable = s.first_executable;
  emit_first_after_gap = s.emit_first_after_gap;
  rounds = set s.rounds ((s.top.0 + 1) % 512) (record { peers = peers; used_anchor_proof = 0 });
  memory = s.memory;
}

unfoldable pub asked_state : State → State
asked_state s = record {
  phase = s.phase;
  count = s.count;
  genesis = s.genesis;
  commit_history_rounds = s.commit_history_rounds;
  deduplicate_rounds = s.deduplicate_rounds;
  bottom = s.bottom;
  top = s.top;
  last_committed_proof = s.last_committed_proof;
  last_anchor = s.last_anchor;
  full_history_bottom = s.full_history_bottom;
  first_executable = s.first_executable;
  emit_first_after_gap = 2;
  rounds = s.rounds;
  memory = s.memory;
}

unfoldable pub dropped_state : State → ℕ → ℕ → ℕ → State
dropped_state s actual b n = let full = actual + s.commit_history_rounds in record {
  phase = s.phase;
  count = n;
  genesis = s.genesis;
  commit_history_rounds = s.commit_history_rounds;
  deduplicate_rounds = s.deduplicate_rounds;
  bottom = record { 0 = b };
  top = s.top;
  last_committed_proof = s.last_committed_proof;
  last_anchor = s.last_anchor;
  full_history_bottom = record { 0 = full };
  first_executable = record { 0 = full + s.deduplicate_rounds };
  emit_first_after_gap = 1;
  rounds = s.rounds;
  memory = s.memory;
}

unfoldable pub removed_state : State → ℕ → ℕ → Memory → State
removed_state s b n m = record {
  phase = s.phase;
  count = n;
  genesis = s.genesis;
  commit_history_rounds = s.commit_history_rounds;
  deduplicate_rounds = s.deduplicate_rounds;
  bottom = record { 0 = b };
  top = s.top;
  last_committed_proof = s.last_committed_proof;
  last_anchor = s.last_anchor;
  full_history_bottom = s.full_history_bottom;
  first_executable = s.first_executable;
  emit_first_after_gap = s.emit_first_after_gap;
  rounds = s.rounds;
  memory = m;
}
