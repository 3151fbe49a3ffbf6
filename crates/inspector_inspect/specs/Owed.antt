-- The signers that are reported at a round (01: inspector.rs).
use Rattle.std.specs.Prelude.{ℕ, ◌-◌, ◌*◌, ◌<◌, ◌≤◌, ◌≡◌, refl, List, Bool, true, ◌&&◌, cond, eqb, ltb, length, get_or}
use Rattle.std.proofs.Common.{sym, ◌∙◌, arith, eq-eqb, ne_eqb, ltb-true}
use Rattle.std.proofs.Math.Path.{ap, subst}
use Rattle.laws.specs.Test.{same_or}
use Rattle.laws.specs.Lists.{keep}
use Rattle.laws.specs.Peers.{member}
use Rattle.spec.specs.Store as store
use Rattle.spec.specs.Store.{Store}
use Rattle.spec.specs.Rules.{counts_as_started}
use Rattle.spec.specs.Inspect.{is_trusted, places_in, round_data, reported, not_referenced, counted}
use Rattle.spec.specs.Inspection.{Ascending, before, before-keeps, data_rises}
use Rattle.models.specs.Digest.{Fit}
use Rattle.commit_state.specs.View.{memory_of}
use Rattle.commit_state.specs.Memory.{memory_rises}
use Rattle.commit_state.specs.declared.state.State.{State}
use Rattle.tables_test.specs.View.{view}
use Rattle.tables_test.specs.Refines as refines
use Rattle.tables_test.specs.Refines.{Started}
use Rattle.models.specs.Ids.{Placed}
use Rattle.back_history.specs.Refines.{well}
use Rattle.inspector_references.specs.Trusted.{Listed}
use Rattle.inspector_references.specs.Referring.{row_author, Retained, trusted_placed}
use Rattle.inspector_rows.specs.Rows.{entry_at, entries_of}
use Rattle.inspector_not_referenced.specs.Signers.{cell_of, Cells, skipped_by, cell_is, signers_is, skipped_is}
use Rattle.inspector_inspect.specs.Filled.{RowsBefore}

-- the round of the rows that round r meets
unfoldable pub last_before : State → ℕ → ℕ
last_before s r = cond (eqb r s.bottom.0) s.memory.last.0 (r - 1)

pub last_bottom : (s : State) (r : ℕ) → r ≡ s.bottom.0 → s.memory.last.0 ≡ last_before s r
unfolding last_before
last_bottom s r e = rw (eq-eqb r s.bottom.0 e) refl

pub last_above : (s : State) (r x : ℕ) → (r ≡ s.bottom.0 → ⊥) → x ≡ r - 1 → x ≡ last_before s r
unfolding last_before
last_above s r x d e = rw (ne_eqb r s.bottom.0 d) e

-- it is the round of the memory that round r meets
pub last_is : (s : State) (ks ls cs os : List ℕ) (r : ℕ) → last_before s r ≡ (before (view s ks ls cs os) r).last
unfolding last_before before view memory_of round_data
last_is s ks ls cs os r = same_or r s.bottom.0 (λ e. rw (eq-eqb r s.bottom.0 e) refl) (λ d. rw (ne_eqb r s.bottom.0 d) refl)

-- at round r, which meets the memory m: the signers reported by each of the n rows and by all, and how many rows report a signer
pub record Owed (m : store.Memory) (v : Store) (r : ℕ) (rs : List ℕ) (n : ℕ) (sets : List ℕ) (sg : ℕ) : Type 0 where
  pub size : length sets ≡ 128
  pub signers : (a : ℕ) → member sg a ≡ not_referenced m v r a
  pub cells : (a k : ℕ) → k < n → member (get_or sets k 0) a ≡ (not_referenced m v r a && reported m.entries v r a (entry_at rs k))
  pub skipped : (a : ℕ) → skipped_by sets n a ≡ (counted m v r a).references_skipped

module _ (s : State) (ks ls cs os : List ℕ) (fk : Fit ks) (fl : Fit ls) (h : counts_as_started (view s ks ls cs os) ≡ true) (r : ℕ) (l : List ℕ) (m : ℕ)
    (here : Listed l m (keep (is_trusted (view s ks ls cs os)) (places_in (view s ks ls cs os) r))) (rs : List ℕ) (n : ℕ) (rows : RowsBefore s ks ls cs os r rs n) where
  abbrev v : Store
  v = view s ks ls cs os

  abbrev t : Started s ks ls cs os
  t = refines.counted s ks ls cs os fk fl h

  -- what the scan asks for
  pub owed_ready : 1_408 ≤ length rs → ((m ≤ length l) × (n ≤ 128) × (n * 11 ≤ length rs)) × (((j : ℕ) → j < m → Placed ks ls (get_or l j 0)) × ((k : ℕ) → k < n → row_author rs k < 32))
  owed_ready b = ((omega (arith, here.size, here.few), rows.few, omega (arith, rows.few)), (trusted_placed s ks ls cs os fk fl h r l m here, rows.authors))

  -- the rows are the memory that the round meets
  met : store.Memory
  met = record { last = last_before s r; entries = entries_of rs n }

  met_is : met ≡ before v r
  unfolding met
  met_is = λ i. record { last = last_is s ks ls cs os r i; entries = rows.entries i }

  rises : Ascending (entries_of rs n)
  unfolding view
  rises = subst Ascending (sym rows.entries) (before-keeps (λ m. Ascending m.entries) v r (memory_rises s.memory t.memory_ok) (λ x. data_rises v x (well s ks ls cs os fk fl t)))

  module _ (last x : ℕ) (at : last ≡ last_before s r) (is : x ≡ r - 1) where
    abbrev live : Bool
    live = ltb s.bottom.0 x

    abbrev adjacent : Bool
    adjacent = eqb last x

    from : live ≡ true → (k : ℕ) → k < n → Retained s ks ls os r 1 rs k
    from y k b = rows.retained (omega (arith, is, ltb-true s.bottom.0 x y)) k b

    near : adjacent ≡ eqb (last_before s r) (r - 1)
    near = λ i. eqb (at i) (is i)

    pub owed_is : (sets : List ℕ) (sg : ℕ) → Cells (cell_of ks ls l m live adjacent rs n) n sets sg → Owed (before v r) v r rs n sets sg
    unfolding counted met
    owed_is sets sg c =
        subst (λ (m : store.Memory). Owed m v r rs n sets sg) met_is
        (record {
          size = c.size;
          signers = λ a. ap (λ z. member z a) c.union ∙ signers_is s ks ls cs os fk fl h r l m live here rs n from rises (last_before s r) adjacent near a;
          cells = λ a k b. ap (λ z. member z a) (c.cells k b) ∙ cell_is s ks ls cs os fk fl h r l m live here rs n from rises (last_before s r) adjacent near a k b;
          skipped = λ a. skipped_is s ks ls cs os fk fl h r l m live here rs n from rises (last_before s r) adjacent near a sets sg c;
        })
