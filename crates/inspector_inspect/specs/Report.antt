-- What a round reports, and its events of kind 5 (01: inspector.rs).
use Rattle.std.specs.Prelude.{ℕ, ◌*◌, ◌<◌, ◌≤◌, ◌≡◌, List, Bool, true, ◌&&◌, get_or}
use Rattle.std.proofs.Math.Path.{sym, ap}
use Rattle.std.proofs.Common.{subst, ◌∙◌, arith}
use Rattle.std.proofs.Math.ListN.{length}
use Rattle.laws.specs.Lists.{keep, up_to}
use Rattle.laws.specs.Peers.{member}
use Rattle.spec.specs.Store as store
use Rattle.spec.specs.Store.{Store}
use Rattle.spec.specs.Rules.{counts_as_started}
use Rattle.spec.specs.Inspect.{is_trusted, places_in, not_referenced, reported, Event, no_inclusions, event_bytes}
use Rattle.spec.specs.Inspection.{before, inspected_round}
use Rattle.models.specs.Digest.{Fit}
use Rattle.commit_state.specs.declared.state.State.{State}
use Rattle.tables_test.specs.View.{view}
use Rattle.tables_test.specs.Refines.{counted}
use Rattle.inspector_references.specs.Trusted.{Listed}
use Rattle.inspector_references.specs.Referring.{trusted_placed}
use Rattle.inspector_rows.specs.Rows.{entry_at, entries-length, entries_at}
use Rattle.inspector_events.specs.declared.emitted.Emitted.{Emitted}
use Rattle.inspector_events.specs.Told.{Ready, Told}
use Rattle.inspector_signers.specs.Signers.{InKeys, signers_of}
use Rattle.inspector_signers.specs.Refines.{RowsHold, SetsHold, signers_are}
use Rattle.inspector_inspect.specs.Filled.{RowsBefore}
use Rattle.inspector_inspect.specs.Owed.{last_before, last_is, Owed}
use Rattle.inspector_inspect.specs.declared.round.Reported.{Reported}

-- the rows that round r meets, its trusted points, and the signers that are reported
pub record IsReported (s : State) (ks ls cs os : List ℕ) (r : ℕ) (rs : List ℕ) (x : Reported) : Type 0 where
  pub room : x.rows * 11 ≤ length rs
  pub rows : RowsBefore s ks ls cs os r rs x.rows
  pub trusted : Listed x.places x.count (keep (is_trusted (view s ks ls cs os)) (places_in (view s ks ls cs os) r))
  pub owed : Owed (before (view s ks ls cs os) r) (view s ks ls cs os) r rs x.rows x.sets x.signers

pub is_reported : (s : State) (ks ls cs os : List ℕ) (r : ℕ) (rs : List ℕ) (x : Reported) → 1_408 ≤ length rs → RowsBefore s ks ls cs os r rs x.rows → Listed x.places x.count (keep (is_trusted (view s ks ls cs os)) (places_in (view s ks ls cs os) r))
    → Owed (before (view s ks ls cs os) r) (view s ks ls cs os) r rs x.rows x.sets x.signers → IsReported s ks ls cs os r rs x
is_reported s ks ls cs os r rs x l a b c = record { room = omega (arith, l, a.few); rows = a; trusted = b; owed = c }

-- the events of kind 5 of round r
abbrev pub owed_of : State → List ℕ → List ℕ → List ℕ → List ℕ → ℕ → List Event
owed_of s ks ls cs os r = up_to 32 (no_inclusions (view s ks ls cs os) (inspected_round (view s ks ls cs os) r))

module _ (s : State) (ks ls cs os : List ℕ) (fk : Fit ks) (fl : Fit ls) (h : counts_as_started (view s ks ls cs os) ≡ true) (r : ℕ) (rs : List ℕ) (x : Reported) (y : IsReported s ks ls cs os r rs x) where
  abbrev v : Store
  v = view s ks ls cs os

  abbrev m : store.Memory
  m = before v r

  -- stands for no entry
  abbrev z : store.Entry
  z = entry_at rs 0

  entry_is : (k : ℕ) → k < x.rows → get_or m.entries k z ≡ entry_at rs k
  entry_is k l = ap (λ es. get_or es k z) (sym y.rows.entries) ∙ entries_at rs x.rows k z l

  rows_hold : RowsHold z rs x.rows m.entries
  unfolding entry_at
  rows_hold = record {
    size = ap length (sym y.rows.entries) ∙ entries-length rs x.rows;
    authors = λ k l. sym (ap (λ (e : store.Entry). e.author) (entry_is k l));
    digests = λ k l. sym (ap (λ (e : store.Entry). e.digest) (entry_is k l));
  }

  sets_hold : SetsHold z x.sets x.signers x.rows m v r
  sets_hold = record {
    signers = λ a l. y.owed.signers a;
    sets = λ a k l b. subst (λ e. member (get_or x.sets k 0) a ≡ (not_referenced m v r a && reported m.entries v r a e)) (sym (entry_is k b)) (y.owed.cells a k b);
  }

  -- what is sent for it
  sent_is : (last : ℕ) → last ≡ last_before s r → signers_of ks x.places x.count rs x.sets x.rows last x.signers 32 ≡ owed_of s ks ls cs os r
  sent_is last e =
      ap (λ n. signers_of ks x.places x.count rs x.sets x.rows n x.signers 32) (e ∙ last_is s ks ls cs os r)
      ∙ signers_are s ks ls cs os fk fl (counted s ks ls cs os fk fl h) r x.places x.count (omega (arith, y.trusted.size, y.trusted.few)) y.trusted.are m z rs x.sets x.rows x.signers rows_hold sets_hold

  -- what its sending asks for
  pub send_ready : ((x.count ≤ length x.places) × InKeys ks x.places x.count) × ((x.rows * 11 ≤ length rs) × (x.rows ≤ length x.sets))
  send_ready = (
    (omega (arith, y.trusted.size, y.trusted.few), λ j l. (trusted_placed s ks ls cs os fk fl h r x.places x.count y.trusted j l).0),
    (y.room, omega (arith, y.owed.size, y.rows.few)),
  )

  module _ (last : ℕ) (at : last ≡ last_before s r) (w : Bool) (b : List ℕ) (e : Emitted) where
    pub owed_ready : Ready event_bytes w b e (owed_of s ks ls cs os r) → Ready event_bytes w b e (signers_of ks x.places x.count rs x.sets x.rows last x.signers 32)
    owed_ready = subst (Ready event_bytes w b e) (sym (sent_is last at))

    pub owed_told : (q : Emitted) (b' : List ℕ) → Told event_bytes w b e (signers_of ks x.places x.count rs x.sets x.rows last x.signers 32) q b' → Told event_bytes w b e (owed_of s ks ls cs os r) q b'
    owed_told q b' = subst (λ xs. Told event_bytes w b e xs q b') (sent_is last at)
