-- The memory that a remove leaves (01: inspector.rs).
use Rattle.std.specs.Prelude.{ℕ, zero, suc, ◌+◌, ◌-◌, ◌<◌, ◌≤◌, max, ◌≡◌, List, [], ◌∷◌, false, take, replicate}
use Rattle.std.proofs.Math.Path.{refl, sym, ap, subst}
use Rattle.std.proofs.Common.{◌∙◌, arith, add-one, get_or-take, lt-ltb, le-ltb}
use Rattle.std.proofs.Math.Bool.{true, not, cond}
use Rattle.std.proofs.Math.Dec.{ltb}
use Rattle.std.proofs.Math.ListN.{length, get_or, length-replicate, get_or-map}
use Rattle.laws.specs.Test.{by_test, le_or}
use Rattle.laws.specs.Lists.{Pairs, get_d_in}
use Rattle.spec.specs.Store as store
use Rattle.spec.specs.Store.{Store}
use Rattle.spec.specs.Rules.{counts_as_started}
use Rattle.spec.specs.Inspect.{round_data, last_non_executable, inspected, memory_after}
use Rattle.spec.specs.Inspection.{Lower, Ascending, first_shown, memory_after_lem, data_rises}
use Rattle.models.specs.Digest.{Fit, digest_at}
use Rattle.models.specs.declared.parts.Round.{Round}
use Rattle.commit_state.specs.View.{entry_of, memory_of, conf_of, progress_of}
use Rattle.commit_state.specs.Memory.{beyond, is_lower, memory_holds, memory_yes, entry_last, entry_next}
use Rattle.commit_state.specs.declared.state.Entry.{Entry}
use Rattle.commit_state.specs.declared.state.Memory.{Memory}
use Rattle.commit_state.specs.declared.state.State.{State}
use Rattle.tables_test.specs.View.{view}
use Rattle.tables_test.specs.Refines.{Started, counted}
use Rattle.back_history.specs.Refines.{well}
use Rattle.inspector_rows.specs.Rows.{entry_at, entries_of, entries-length, entries_at, RowsFit}
use Rattle.inspector_rows.specs.Memory.{memory_from, memory_is}
use Rattle.inspector_inspect.specs.Filled.{trusted_of, round_rows, RoundRows, round_left_lem}

-- the lowest round that a remove may inspect
abbrev pub first_inspected : State → ℕ
first_inspected s = max s.bottom.0 (max (s.first_executable.0 - 1) s.genesis.0)

-- the lowest that is reported
pub shown-first : (s : State) (ks ls cs os : List ℕ) (x y z : ℕ) → x ≡ s.genesis.0 + 1 → y ≡ max s.first_executable.0 x → z ≡ max s.bottom.0 y → z ≡ first_shown (view s ks ls cs os)
unfolding view last_non_executable conf_of progress_of
shown-first s ks ls cs os x y z e d h = h ∙ ap (max s.bottom.0) (d ∙ (ap (max s.first_executable.0) e ∙ above s.first_executable.0 s.genesis.0))
  where
    above : (f g : ℕ) → max f (g + 1) ≡ suc (max (f - 1) g)
    above f g = omega arith

-- the memory that it leaves, with the new bottom r: that of the last round inspected, else as it was
unfoldable pub memory_left : State → List ℕ → List ℕ → List ℕ → List ℕ → ℕ → Memory
memory_left s ks ls cs os r =
    cond (ltb (first_inspected s) r) (memory_from (record { 0 = r - 1 }) (length (trusted_of (view s ks ls cs os) (r - 1))) (round_rows s ks ls cs os (r - 1) (replicate 1_408 0))) s.memory

-- it is 01's, and tables may hold it
abbrev pub Left : State → List ℕ → List ℕ → List ℕ → List ℕ → ℕ → Memory → Type 0
Left s ks ls cs os r m = let v = view s ks ls cs os in (memory_of m ≡ memory_after v v.memory (inspected v r)) × (memory_holds m ≡ true)

-- an element and the next one
next_pairs : {A : Type 0} (R : A → A → Type 0) (l : List A) (i : ℕ) (z : A) → Pairs R l → suc i < length l → R (get_or l i z) (get_or l (suc i) z)
next_pairs R [] i z p b = absurd (omega arith)
next_pairs R (x ∷ xs) zero z p b = p.0 (get_or xs 0 z) (get_d_in xs 0 z (omega arith))
next_pairs R (x ∷ xs) (suc i) z p b = next_pairs R xs i z p.1 (omega arith)

module _ (rs : List ℕ) (last : Round) (n : ℕ) (few : n ≤ 128) where
  abbrev m : Memory
  m = memory_from last n rs

  abbrev es : List Entry
  es = m.entries

  -- entry j, as 01 reads it, is that of row j
  entry_is : (j : ℕ) → j < n → entry_of (get_or es j beyond) ≡ entry_at rs j
  unfolding memory_of memory_from
  entry_is j l =
      ap entry_of (sym (get_or-take n es j beyond l))
      ∙ (sym (get_or-map entry_of (take n es) j beyond)
      ∙ (ap (λ (x : store.Memory). get_or x.entries j (entry_of beyond)) (memory_is rs last n few) ∙ entries_at rs n j (entry_of beyond) l))

  author_is : (j : ℕ) → j < n → (get_or es j beyond).author ≡ (entry_at rs j).author
  unfolding entry_of
  author_is j l = ap (λ (e : store.Entry). e.author) (entry_is j l)

  digest_is : (j : ℕ) → j < n → digest_at (get_or es j beyond).digest.0 0 ≡ (entry_at rs j).digest
  unfolding entry_of
  digest_is j l = ap (λ (e : store.Entry). e.digest) (entry_is j l)

  -- rows that rise make memory that does
  pub rows_hold : RowsFit rs n → Ascending (entries_of rs n) → memory_holds m ≡ true
  unfolding entry_at is_lower memory_from
  rows_hold fit rises =
      sym (memory_yes m few (λ j l.
      let a : (get_or es j beyond).author ≤ 31 = omega (arith, author_is j l, (fit j l).0) in
      le_or n (j + 1)
      (λ b. entry_last es n j a b)
      (λ b. let z : store.Entry = entry_at rs 0 in
      let k : Lower (get_or (entries_of rs n) j z) (get_or (entries_of rs n) (j + 1) z) = subst (λ i. Lower (get_or (entries_of rs n) j z) (get_or (entries_of rs n) i z)) (sym (add-one j)) (next_pairs Lower (entries_of rs n) j z rises (omega (arith, entries-length rs n))) in
      let x : (get_or (entries_of rs n) j z).digest ≡ (entry_at rs j).digest = ap (λ (e : store.Entry). e.digest) (entries_at rs n j z l) in
      let y : (get_or (entries_of rs n) (j + 1) z).digest ≡ (entry_at rs (j + 1)).digest = ap (λ (e : store.Entry). e.digest) (entries_at rs n (j + 1) z b) in
      entry_next es n j a b (is_lower (get_or es j beyond) (get_or es (j + 1) beyond)) refl
      (ap not (lt-ltb (digest_at (get_or es j beyond).digest.0 0) (digest_at (get_or es (j + 1) beyond).digest.0 0) (omega (arith, k, x, y, digest_is j l, digest_is (j + 1) b)))))))

-- the round above genesis
pub genesis-fits : (s : State) (ks ls cs os : List ℕ) → Fit ks → Fit ls → counts_as_started (view s ks ls cs os) ≡ true → s.genesis.0 + 1 < 4_294_967_296
unfolding view conf_of
genesis-fits s ks ls cs os fk fl h = let w = well s ks ls cs os fk fl (counted s ks ls cs os fk fl h) in omega (arith, w.low, w.rounds_ok, w.high)

-- ---- the steps of the code

module _ (s : State) (ks ls cs os : List ℕ) (r f : ℕ) (is : f ≡ first_inspected s) where
  -- nothing is inspected
  pub memory_stays : r ≤ f → s.memory ≡ memory_left s ks ls cs os r
  unfolding memory_left
  memory_stays l = rw (le-ltb (first_inspected s) r (omega arith)) refl

  -- the last round inspected fills it
  pub memory_fills : f < r → (last : Round) (n : ℕ) (rs : List ℕ) (m : Memory) → last.0 ≡ r - 1 → RoundRows s ks ls cs os last.0 (replicate 1_408 0) rs n → m ≡ memory_from last n rs → m ≡ memory_left s ks ls cs os r
  unfolding memory_left
  memory_fills l last n rs m e y d =
      d
      ∙ ((λ i. memory_from (record { 0 = e i }) ((y.count ∙ ap (λ (x : ℕ). length (trusted_of (view s ks ls cs os) x)) e) i) ((y.words ∙ ap (λ (x : ℕ). round_rows s ks ls cs os x (replicate 1_408 0)) e) i))
      ∙ rw (lt-ltb (first_inspected s) r (omega arith)) refl)

-- ---- 01's memory

module _ (s : State) (ks ls cs os : List ℕ) (fk : Fit ks) (fl : Fit ls) (h : counts_as_started (view s ks ls cs os) ≡ true) (r : ℕ) where
  abbrev v : Store
  v = view s ks ls cs os

  abbrev t : Started s ks ls cs os
  t = counted s ks ls cs os fk fl h

  after_is : memory_after v v.memory (inspected v r) ≡ cond (ltb (first_inspected s) r) (round_data v (r - 1)) v.memory
  unfolding view last_non_executable conf_of progress_of
  after_is = memory_after_lem v r

  pub memory_left_lem : Left s ks ls cs os r (memory_left s ks ls cs os r)
  unfolding memory_left view round_data
  memory_left_lem = by_test (ltb (first_inspected s) r) fills stays
    where
      fills : ltb (first_inspected s) r ≡ true → Left s ks ls cs os r (memory_left s ks ls cs os r)
      fills e =
          let last : Round = record { 0 = r - 1 } in
          let y = round_left_lem s ks ls cs os fk fl h (r - 1) (replicate 1_408 0) (omega (arith, length-replicate {A = ℕ} 1_408 0)) in
          let n = length (trusted_of v (r - 1)) in
          let rs = round_rows s ks ls cs os (r - 1) (replicate 1_408 0) in
          subst (λ x. (memory_of (cond x (memory_from last n rs) s.memory) ≡ memory_after v v.memory (inspected v r)) × (memory_holds (cond x (memory_from last n rs) s.memory) ≡ true)) (sym e) (
            memory_is rs last n y.few ∙ ((λ i. record { last = r - 1; entries = y.entries i }) ∙ sym (after_is ∙ ap (λ x. cond x (round_data v (r - 1)) v.memory) e)),
            rows_hold rs last n y.few y.fit (subst Ascending (sym y.entries) (data_rises v (r - 1) (well s ks ls cs os fk fl t))),
          )

      stays : ltb (first_inspected s) r ≡ false → Left s ks ls cs os r (memory_left s ks ls cs os r)
      stays e = rw e (sym (after_is ∙ ap (λ x. cond x (round_data v (r - 1)) v.memory) e), t.memory_ok)
