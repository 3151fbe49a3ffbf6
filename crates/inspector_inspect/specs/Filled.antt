-- The rows that a round leaves, and those that it meets (01: inspector.rs).
use Rattle.std.specs.Prelude.{ℕ, suc, ◌-◌, ◌*◌, ◌<◌, ◌≤◌, ◌≡◌, refl, cond, replicate}
use Rattle.std.proofs.Math.Path.{sym, ap, subst}
use Rattle.std.proofs.Common.{◌∙◌, length-append, length-take-le, get_or-take}
use mathlib.Core.List.{List, ◌++◌}
use Rattle.std.proofs.Math.Bool.{Bool, true}
use native.Mathlib.Omega.{arith}
use Rattle.std.proofs.Math.Dec.{ltb}
use Rattle.std.proofs.Math.ListN.{length, get_or}
use Rattle.std.proofs.lemmas.List.{length-replicate}
use Rattle.std.proofs.Math.Seq.{take-append_seam}
use borrow.Author.Tests.{eq-eqb, ne_eqb, ltb-true, leb-true}
use Rattle.laws.specs.Test.{and_l}
use Rattle.laws.specs.Lists.{keep}
use Rattle.spec.specs.Ids.{prev}
use Rattle.spec.specs.Store.{Store}
use Rattle.spec.specs.Rules.{counts_as_started}
use Rattle.spec.specs.Inspect.{is_trusted, places_in, round_data}
use Rattle.spec.specs.Inspection.{before, kept_few}
use Rattle.models.specs.Digest.{Fit}
use Rattle.models.specs.Tables.{Inside}
use Rattle.dag_round_keys.specs.Sorted.{Sorted}
use Rattle.commit_state.specs.Memory.{memory_holds}
use Rattle.commit_state.specs.declared.state.State.{State}
use Rattle.tables_test.specs.View.{view}
use Rattle.tables_test.specs.Refines.{Started, counted}
use Rattle.models.specs.Ids.{Placed}
use Rattle.back_history.specs.Model.{Range}
use Rattle.back_history.specs.Refines.{well}
use Rattle.inspector_counters.specs.Places.{span-few}
use Rattle.inspector_counters.proofs.Count.{span_ready, round_ready}
use Rattle.dag_round_order.specs.Span.{span_of}
use Rattle.dag_round_order.specs.declared.span.Span.{Span}
use Rattle.inspector_references.specs.Trusted.{Listed, trusted_in, trusted_is}
use Rattle.inspector_references.specs.Referring.{row_author, RowOf, Retained, trusted_placed}
use Rattle.inspector_rows.specs.Rows.{entries_of, RowsFit}
use Rattle.inspector_rows.specs.Must.{must_rows, must_same, must_is, must_rows_lem, must_fit}
use Rattle.inspector_rows.specs.Memory.{memory_rows, rows_is, rows_authors}

-- the trusted points of round r
abbrev pub trusted_of : Store → ℕ → List ℕ
trusted_of v r = keep (is_trusted v) (places_in v r)

-- the table t with their rows
unfoldable pub round_rows : State → List ℕ → List ℕ → List ℕ → List ℕ → ℕ → List ℕ → List ℕ
round_rows s ks ls cs os r t = let qs = trusted_of (view s ks ls cs os) r in must_rows ks ls qs (length qs) (ltb s.bottom.0 r) t

-- of the table t round r leaves rs: the first n rows hold 01's memory of it
pub record RoundRows (s : State) (ks ls cs os : List ℕ) (r : ℕ) (t rs : List ℕ) (n : ℕ) : Type 0 where
  pub count : n ≡ length (trusted_of (view s ks ls cs os) r)
  pub words : rs ≡ round_rows s ks ls cs os r t
  pub few : n ≤ 128
  pub entries : entries_of rs n ≡ (round_data (view s ks ls cs os) r).entries
  pub fit : RowsFit rs n
  pub rows : (k : ℕ) → k < n → RowOf s ks ls os r rs k

-- they hold what round r meets
pub record RowsBefore (s : State) (ks ls cs os : List ℕ) (r : ℕ) (rs : List ℕ) (n : ℕ) : Type 0 where
  pub few : n ≤ 128
  pub entries : entries_of rs n ≡ (before (view s ks ls cs os) r).entries
  pub authors : (k : ℕ) → k < n → row_author rs k < 32
  pub retained : suc s.bottom.0 < r → (k : ℕ) → k < n → Retained s ks ls os r 1 rs k

module _ (s : State) (ks ls cs os : List ℕ) (fk : Fit ks) (fl : Fit ls) (h : counts_as_started (view s ks ls cs os) ≡ true) (r : ℕ) where
  abbrev v : Store
  v = view s ks ls cs os

  abbrev t : Started s ks ls cs os
  t = counted s ks ls cs os fk fl h

  -- the search of its positions
  pub positions_ready : r ≤ 4_000_000_000 → ((length ks ≡ length os * 8) × (s.count ≤ length os) × Inside os s.count (length os)) × (Sorted ks os s.count × (r ≤ 4_000_000_000))
  positions_ready = span_ready s ks ls cs os fk fl t r

  module _ (x : Span) (e : x ≡ span_of ks os s.count r) where
    -- the scan of its trusted points
    pub trusted_ready : Range cs os x.low x.high × ((length ks ≡ length os * 8) × (x.high - x.low ≤ 128))
    unfolding span_of
    trusted_ready = let (a, b) = round_ready s ks ls cs os fk fl t r x e in (a, (b, subst (λ (y : Span). y.high - y.low ≤ 128) (sym e) (span-few s ks ls cs os fk fl t r)))

    module _ (l : List ℕ) (n : ℕ) (found : Listed l n (trusted_in ks cs os x.low (x.high - x.low))) where
      -- they are those of 01
      pub trusted_here : Listed l n (keep (is_trusted v) (places_in v r))
      unfolding span_of
      trusted_here = subst (Listed l n) (ap (λ (y : Span). trusted_in ks cs os y.low (y.high - y.low)) e ∙ trusted_is s ks ls cs os fk fl t r) found

  module _ (l : List ℕ) (n : ℕ) (here : Listed l n (keep (is_trusted v) (places_in v r))) where
    -- the places may be read, and their rows have room
    pub must_ready : (rs : List ℕ) → 1_408 ≤ length rs → ((n ≤ length l) × (n * 11 ≤ length rs)) × ((j : ℕ) → j < n → Placed ks ls (get_or l j 0))
    must_ready rs b = ((omega (arith, here.size, here.few), omega (arith, here.few)), trusted_placed s ks ls cs os fk fl h r l n here)

    -- their rows are those that the round leaves
    pub round_rows_lem : (rs r' : List ℕ) → 1_408 ≤ length rs → r' ≡ must_rows ks ls l n (ltb s.bottom.0 r) rs → RoundRows s ks ls cs os r rs r' n
    unfolding round_rows
    round_rows_lem rs r' b e =
        let live : Bool = ltb s.bottom.0 r in
        let up : live ≡ true → s.bottom.0 < r = λ y. ltb-true s.bottom.0 r y in
        let room : n * 11 ≤ length rs = omega (arith, here.few) in
        let qs = trusted_of v r in
        let many : n ≡ length qs = sym (length-take-le n l (omega (arith, here.size, here.few))) ∙ ap length here.are in
        let same : (j : ℕ) → j < n → get_or l j 0 ≡ get_or qs j 0 = λ j m. sym (get_or-take n l j 0 m) ∙ ap (λ (x : List ℕ). get_or x j 0) here.are in
        subst (λ (x : List ℕ). RoundRows s ks ls cs os r rs x n) (sym e)
        (record {
          count = many;
          words = must_same ks ls l qs n live rs same ∙ ap (λ (x : ℕ). must_rows ks ls qs x live rs) many;
          few = here.few;
          entries = must_is s ks ls cs os fk fl h r l n live here up rs room;
          fit = must_fit s ks ls cs os fk fl h r l n live here up rs room;
          rows = must_rows_lem s ks ls cs os fk fl h r l n live here up rs room;
        })

  -- such rows are there for all tables
  pub round_left_lem : (rs : List ℕ) → 1_408 ≤ length rs → RoundRows s ks ls cs os r rs (round_rows s ks ls cs os r rs) (length (trusted_of v r))
  round_left_lem rs b =
      let qs = trusted_of v r in
      let z : List ℕ = replicate (128 - length qs) 0 in
      let few : length qs ≤ 128 = kept_few v (well s ks ls cs os fk fl t) r (is_trusted v) in
      let y = round_rows_lem (qs ++ z) (length qs) (record { size = length-append qs z ∙ omega (arith, length-replicate {A = ℕ} (128 - length qs) 0); few = few; are = take-append_seam qs z }) rs _ b refl in
      subst (λ (x : List ℕ). RoundRows s ks ls cs os r rs x (length qs)) y.words y

  -- it has room
  pub memory_ready : (rs : List ℕ) → 1_408 ≤ length rs → (s.memory.count ≤ 128) × (s.memory.count * 11 ≤ length rs)
  unfolding memory_holds
  memory_ready rs b = let few : s.memory.count ≤ 128 = leb-true s.memory.count 128 (and_l _ _ t.memory_ok) in (few, omega arith)

  -- at the bottom: the rows of the state's memory
  pub memory_before : (rs r' : List ℕ) → 1_408 ≤ length rs → length s.memory.entries ≡ 128 → r ≡ s.bottom.0 → r' ≡ memory_rows s.memory rs → RowsBefore s ks ls cs os r r' s.memory.count
  unfolding before view
  memory_before rs r' b size at e =
      let (few, room) = memory_ready rs b in
      subst (λ (x : List ℕ). RowsBefore s ks ls cs os r x s.memory.count) (sym e)
      (record {
        few = few;
        entries = rows_is s.memory rs room (omega arith) ∙ ap (λ y. (cond y v.memory (round_data v (prev r))).entries) (sym (eq-eqb r s.bottom.0 at));
        authors = rows_authors s.memory rs room t.memory_ok;
        retained = λ u k m. absurd (omega arith);
      })

  -- above it: those that the round below leaves
  pub round-before : (x : ℕ) (w rs : List ℕ) (n : ℕ) → x ≡ r - 1 → (r ≡ s.bottom.0 → ⊥) → RoundRows s ks ls cs os x w rs n → RowsBefore s ks ls cs os r rs n
  unfolding before view
  round-before x w rs n e d y = record {
    few = y.few;
    entries = y.entries ∙ (ap (λ z. (round_data v z).entries) e ∙ ap (λ z. (cond z v.memory (round_data v (prev r))).entries) (sym (ne_eqb r s.bottom.0 d)));
    authors = λ k m. (y.fit k m).0;
    retained = λ u k m. (x, omega arith, omega arith, y.rows k m);
  }
