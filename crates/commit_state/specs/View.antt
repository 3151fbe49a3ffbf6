-- State and tables read as the store of document 01.
use Rattle.std.specs.Prelude.{ℕ, zero, suc, ◌+◌, ◌*◌, ◌/◌, ◌%◌, ◌≡◌, refl, List, [], ◌∷◌, map, Bool, true, not, ◌&&◌, cond, eqb, leb, ltb, get_or, take}
use Rattle.std.proofs.Common.{sym, ◌∙◌, ap, arith, lt-ltb, ne_eqb}
use Rattle.std.proofs.Math.Option.{Option, none, some}
use Rattle.laws.specs.Peers.{member}
use Rattle.spec.specs.Ids.{Ref}
use Rattle.spec.specs.Store as store
use Rattle.spec.specs.Store.{Resolution, Point, Phase, unresolved, no_round}
use Rattle.spec.specs.History.{gap_pending}
use Rattle.models.specs.Digest.{digest_at}
use Rattle.models.specs.Cert.{flags_of, bit_of}
use Rattle.models.specs.Tables.{round_at, author_at, digest_of, status_at, marks_at, evidence_at, payload_at, target_at}
use Rattle.commit_state.specs.declared.state.Entry.{Entry}
use Rattle.commit_state.specs.declared.state.Memory.{Memory}
use Rattle.commit_state.specs.declared.state.RoundRecord.{RoundRecord}
use Rattle.commit_state.specs.declared.state.State.{State}
use Rattle.commit_state.specs.State.{no_record}

-- 0 for none, else what it is plus 1
unfoldable pub option_of : ℕ → Option ℕ
option_of zero = none
option_of (suc n) = some n

-- ---- a point

-- the links of place q under the m peers from k on, of those from b on
unfoldable pub refs_from : List ℕ → ℕ → ℕ → ℕ → ℕ → List Ref
refs_from ls q b k zero = []
refs_from ls q b k (suc m) = cond (ltb 0 (target_at ls q (b + k))) (record { peer = k; digest = digest_at ls (q * 328 + 72 + (b + k) * 4) } ∷ refs_from ls q b (k + 1) m) (refs_from ls q b (k + 1) m)

-- what a resolution gave
abbrev pub given_at : List ℕ → List ℕ → ℕ → Resolution
given_at ks ls q = record {
  status = status_at ks q;
  proof = bit_of 1 (marks_at ks q);
  trigger = bit_of 2 (marks_at ks q);
  cause = bit_of 4 (marks_at ks q);
  top_proof = record { round = get_or ls (q * 328 + 1) 0; author = get_or ls (q * 328 + 2) 0; digest = digest_at ls (q * 328 + 3) };
  evidence = evidence_at ls q;
  includes = refs_from ls q 0 0 32;
  witness = refs_from ls q 32 0 32;
  payload_len = payload_at ls q / 4294967296;
  payload_bytes = payload_at ls q % 4294967296;
}

unfoldable pub resolution_at : List ℕ → List ℕ → ℕ → Resolution
resolution_at ks ls q = cond (eqb (status_at ks q) 0) unresolved (given_at ks ls q)

unfoldable pub point_at : List ℕ → List ℕ → List ℕ → ℕ → Point
point_at ks ls cs q = record {
  named = true;
  id = record { round = round_at ks q; author = author_at ks q; digest = digest_of ks q };
  resolution = resolution_at ks ls q;
  flags = flags_of (get_or cs q 0);
}

-- ---- what goes by value

unfoldable pub round_of : RoundRecord → store.Round
round_of x = record { peers = x.peers; used = option_of x.used_anchor_proof }

unfoldable pub entry_of : Entry → store.Entry
entry_of e = record {
  author = e.author;
  digest = digest_at e.digest.0 0;
  previous = cond (ltb 0 e.has_previous) (some (digest_at e.previous.0 0)) none;
  unreferenced_by = member e.unreferenced_by;
}

unfoldable pub memory_of : Memory → store.Memory
memory_of m = record { last = m.last.0; entries = map entry_of (take m.count m.entries) }

unfoldable pub gap_of : ℕ → Option Bool
gap_of zero = none
gap_of (suc n) = some (ltb 0 n)

-- 20: the question is waited for at 1 alone
pub gap_waits : (g : ℕ) → gap_pending (gap_of g) ≡ eqb g 1
unfolding gap_pending gap_of
gap_waits zero = refl
gap_waits (suc zero) = refl
gap_waits (suc (suc n)) = ap not (lt-ltb 0 (suc n) (omega arith)) ∙ sym (ne_eqb (suc (suc n)) 1 (λ e. omega arith))

unfoldable pub phase_of : ℕ → Phase
phase_of x = cond (eqb x 1) store.started (cond (eqb x 2) store.reset store.other)

-- the record of round r: round r modulo 512
unfoldable pub record_of : List RoundRecord → ℕ → RoundRecord
record_of xs r = get_or xs (r % 512) no_record

-- the rounds from b to t, in the records xs
unfoldable pub window : List RoundRecord → ℕ → ℕ → ℕ → store.Round
window xs b t r = cond (leb b r && leb r t) (round_of (record_of xs r)) no_round

abbrev pub rounds_of : State → ℕ → store.Round
rounds_of s = window s.rounds s.bottom.0 s.top.0

unfoldable pub conf_of : State → store.Conf
conf_of s = record { genesis = s.genesis.0; history_rounds = s.commit_history_rounds; deduplicate_rounds = s.deduplicate_rounds }

unfoldable pub progress_of : State → store.Progress
progress_of s = record {
  last_proof = option_of s.last_committed_proof.0;
  last_anchor = option_of s.last_anchor.0;
  full_bottom = s.full_history_bottom.0;
  first_executable = s.first_executable.0;
  gap = gap_of s.emit_first_after_gap;
}
