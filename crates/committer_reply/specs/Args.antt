-- Arguments as they cross the C boundary.
use Rattle.std.specs.Prelude.{ℕ, ◌/◌, ◌%◌, ◌≡◌, refl, not, cond, eqb}
use Rattle.std.proofs.Math.Option.{Option, none, some}
use Rattle.std.proofs.Common.{ne_eqb}
use Rattle.models.specs.declared.info.PointInfo.{PointInfo}
use Rattle.commit_state.specs.declared.back.StartArgs.{StartArgs}
use Rattle.committer_reply.specs.declared.args.Start.{Start}
use Rattle.committer_reply.specs.declared.args.Resolution.{Resolution}
use Rattle.std.specs.Prelude as rust
use Rattle.std.specs.Prelude.{None, Some}

unfoldable pub used_in : ℕ → (rust.Option ℕ)
used_in n = cond (eqb n 4294967295) None (Some n)

unfoldable pub start_args_in : Start → StartArgs
start_args_in w = record {
  genesis = record { 0 = w.genesis };
  commit_history_rounds = w.commit_history_rounds;
  deduplicate_rounds = w.deduplicate_rounds;
  bottom = record { 0 = w.bottom };
  peers = w.peers;
  after_gap = not (eqb w.after_gap 0);
  used = used_in w.used;
}

-- `stats_since` of a remove: h is 0 for none
unfoldable pub since_in : ℕ → ℕ → Option ℕ
since_in h r = cond (eqb h 0) none (some r)

unfoldable pub info_in : Resolution → PointInfo
info_in t = record {
  status = t.status;
  proof = eqb (t.marks % 2) 1;
  trigger = eqb (t.marks / 2 % 2) 1;
  cause = eqb (t.marks / 4 % 2) 1;
  top_proof = t.top_proof;
  evidence = t.evidence;
  includes = t.includes;
  witness = t.witness;
  payload_len = t.payload_len;
  payload_bytes = t.payload_bytes;
}

-- ---- laws

pub used_none : (n : ℕ) → n ≡ 4294967295 → None ≡ used_in n
unfolding used_in
used_none n e = rw e refl

pub used_some : (n : ℕ) → (n ≡ 4294967295 → ⊥) → Some n ≡ used_in n
unfolding used_in
used_some n d = rw (ne_eqb _ _ d) refl

pub since_none : (h r : ℕ) → h ≡ 0 → none ≡ since_in h r
unfolding since_in
since_none h r e = rw e refl

pub since-some : (h r : ℕ) → (h ≡ 0 → ⊥) → some r ≡ since_in h r
unfolding since_in
since-some h r d = rw (ne_eqb _ _ d) refl

pub begins_is : (w : Start) (u : (rust.Option ℕ)) → u ≡ used_in w.used → ◌≡◌ {A = StartArgs} (record {
  genesis = record { 0 = w.genesis };
  commit_history_rounds = w.commit_history_rounds;
  deduplicate_rounds = w.deduplicate_rounds;
  bottom = record { 0 = w.bottom };
  peers = w.peers;
  after_gap = not (eqb w.after_gap 0);
  used = u;
}) (start_args_in w)
unfolding start_args_in
begins_is w u e = rw e refl
