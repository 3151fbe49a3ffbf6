-- Rows from the state's memory, and memory from rows (01: inspector.rs).
use Prim.Native.Nat.{ℕ, zero, suc, ◌+◌, ◌*◌, ◌<◌, ◌≤◌}
use Rattle.std.specs.Prelude.{◌≡◌, Bool, leb, length, get_or, set, take, replicate}
use Rattle.std.proofs.Math.Path.{refl, sym, ap}
use Rattle.std.proofs.Common.{◌∙◌, add-one, get_or-set_same}
use mathlib.Core.List.{List, map}
use Rattle.std.proofs.Math.Bool.{true, false, cond}
use Rattle.std.proofs.Math.Option.{none, some}
use native.Mathlib.Omega.{arith}
use Rattle.std.proofs.Math.Dec.{ltb}
use Rattle.std.proofs.Math.ListN.{length-replicate, length-set}
use Rattle.std.proofs.Math.Seq.{get_or-set_other}
use borrow.Author.Tests.{leb-true}
use Rattle.laws.specs.Test.{same_or, and_l, and_r}
use Rattle.laws.specs.Scan.{every_elim}
use Rattle.laws.specs.Peers.{member}
use Rattle.models.specs.Digest.{digest_at}
use Rattle.models.specs.declared.parts.Round.{Round}
use Rattle.commit_state.specs.State.{no_entry}
use Rattle.commit_state.specs.View.{entry_of, memory_of}
use Rattle.commit_state.specs.Memory.{beyond, entry_holds, memory_holds}
use Rattle.commit_state.specs.declared.state.Entry.{Entry}
use Rattle.commit_state.specs.declared.state.Memory.{Memory}
use Rattle.inspector_references.specs.Referring.{row_author, row_digest, row_previous, row_signed, row_peers}
use Rattle.inspector_rows.specs.Rows.{words_from, from_digest, row_from, row_digest_lem, row_signed_lem, stacked, stacked_in, stacked-entry, entry_at, entries_of, entries-map}

-- the row of an entry
unfoldable pub entry_row : Entry → List ℕ
entry_row e = row_from e.author e.digest.0 e.has_previous e.previous.0 e.unreferenced_by

-- 1 if it holds
abbrev pub one_if : Bool → ℕ
one_if b = cond b 1 0

-- row k as an entry
unfoldable pub entry_from : List ℕ → ℕ → Entry
entry_from rs k = record {
  author = row_author rs k;
  digest = record { 0 = words_from rs (k * 11 + 1) };
  has_previous = one_if (ltb 0 (row_previous rs k));
  previous = record { 0 = words_from rs (k * 11 + 6) };
  unreferenced_by = row_peers rs k;
}

-- the entries of the first n rows, before none
unfoldable pub entries_from : List ℕ → ℕ → List Entry
entries_from rs zero = replicate 128 no_entry
entries_from rs (suc n) = set (entries_from rs n) n (entry_from rs n)

unfoldable pub memory_from : Round → ℕ → List ℕ → Memory
memory_from last n rs = record { last = last; count = n; entries = entries_from rs n }

-- ---- the steps of the code

pub entry_by : (rs : List ℕ) (k h : ℕ) (d p : List ℕ) → d ≡ words_from rs (k * 11 + 1) → h ≡ one_if (ltb 0 (row_previous rs k)) → p ≡ words_from rs (k * 11 + 6)
    → record { author = row_author rs k; digest = record { 0 = d }; has_previous = h; previous = record { 0 = p }; unreferenced_by = row_peers rs k } ≡ entry_from rs k
unfolding entry_from
entry_by rs k h d p e f g = λ i. record { author = row_author rs k; digest = record { 0 = e i }; has_previous = f i; previous = record { 0 = g i }; unreferenced_by = row_peers rs k }

module _ (rs : List ℕ) where
  pub entries_none : (m : Memory) → m ≡ record { last = record { 0 = 0 }; count = 0; entries = replicate 128 no_entry } → m.entries ≡ entries_from rs 0
  unfolding entries_from
  entries_none m e = ap (λ (x : Memory). x.entries) e

  pub entries-more : (k : ℕ) (l r : List Entry) (e : Entry) → l ≡ entries_from rs k → e ≡ entry_from rs k → r ≡ set l k e → r ≡ entries_from rs (k + 1)
  unfolding entries_from
  entries-more k l r e d f h = rw (add-one k, entries_from, ← d, ← f) h

  pub memory_by : (last : Round) (k n : ℕ) (l : List Entry) → l ≡ entries_from rs k → k ≤ n → n ≤ k → record { last = last; count = n; entries = l } ≡ memory_from last n rs
  unfolding memory_from
  memory_by last k n l e a b = let d : k ≡ n = omega arith in λ i. record { last = last; count = n; entries = (rw d at e) i }

  -- ---- the same entries

  pub from_length : (n : ℕ) → length (entries_from rs n) ≡ 128
  unfolding entries_from
  from_length zero = length-replicate {A = Entry} 128 no_entry
  from_length (suc n) = length-set (entries_from rs n) n (entry_from rs n) ∙ from_length n

  from_at : (n k : ℕ) → n ≤ 128 → k < n → get_or (entries_from rs n) k beyond ≡ entry_from rs k
  unfolding entries_from
  from_at zero k r l = absurd (omega arith)
  from_at (suc n) k r l =
      same_or k n
      (λ e. rw e (get_or-set_same (entries_from rs n) n (entry_from rs n) beyond (omega (arith, from_length n))))
      (λ d. get_or-set_other (entries_from rs n) n k (entry_from rs n) beyond d ∙ from_at n k (omega arith) (omega arith))

  entry_is : (k : ℕ) → entry_of (entry_from rs k) ≡ entry_at rs k
  unfolding entry_of entry_from entry_at
  entry_is k =
      let d : digest_at (words_from rs (k * 11 + 1)) 0 ≡ row_digest rs k = from_digest rs (k * 11 + 1) in
      let g : digest_at (words_from rs (k * 11 + 6)) 0 ≡ row_signed rs k = from_digest rs (k * 11 + 6) in
      let b : ltb 0 (one_if (ltb 0 (row_previous rs k))) ≡ ltb 0 (row_previous rs k) = back (ltb 0 (row_previous rs k)) in
      λ i. record { author = row_author rs k; digest = d i; previous = cond (b i) (some (g i)) none; unreferenced_by = member (row_peers rs k) }
    where
      back : (b : Bool) → ltb 0 (one_if b) ≡ b
      back true = refl
      back false = refl

  -- the memory holds the entries of the rows
  pub memory_is : (last : Round) (n : ℕ) → n ≤ 128 → memory_of (memory_from last n rs) ≡ record { last = last.0; entries = entries_of rs n }
  unfolding memory_of memory_from
  memory_is last n l =
      let e : map entry_of (take n (entries_from rs n)) ≡ entries_of rs n = sym (entries-map rs entry_of (entries_from rs n) beyond n (omega (arith, from_length n)) (λ k m. sym (ap entry_of (from_at n k l m) ∙ entry_is k))) in
      λ i. record { last = last.0; entries = e i }

row_is : (e : Entry) → entry_at (entry_row e) 0 ≡ entry_of e
unfolding entry_at entry_row entry_of row_from
row_is e =
    let d : digest_at (entry_row e) 1 ≡ digest_at e.digest.0 0 = row_digest_lem e.author e.digest.0 e.has_previous e.previous.0 e.unreferenced_by in
    let g : digest_at (entry_row e) 6 ≡ digest_at e.previous.0 0 = row_signed_lem e.author e.digest.0 e.has_previous e.previous.0 e.unreferenced_by in
    λ i. record { author = e.author; digest = d i; previous = cond (ltb 0 e.has_previous) (some (g i)) none; unreferenced_by = member e.unreferenced_by }

-- the rows of a memory
abbrev pub memory_rows : Memory → List ℕ → List ℕ
memory_rows m t = stacked (λ j. entry_row (get_or m.entries j beyond)) t m.count

module _ (m : Memory) (t : List ℕ) (room : m.count * 11 ≤ length t) where
  -- the rows hold the entries of the memory
  pub rows_is : m.count ≤ length m.entries → entries_of (memory_rows m t) m.count ≡ (memory_of m).entries
  unfolding memory_of
  rows_is l = entries-map (memory_rows m t) entry_of m.entries beyond m.count l (λ k b. stacked-entry (λ j. entry_row (get_or m.entries j beyond)) t m.count k room b ∙ row_is (get_or m.entries k beyond))

  -- their authors are peers
  pub rows_authors : memory_holds m ≡ true → (k : ℕ) → k < m.count → row_author (memory_rows m t) k < 32
  unfolding memory_holds entry_holds entry_row row_from
  rows_authors h k b =
      let e : row_author (memory_rows m t) k ≡ (get_or m.entries k beyond).author = stacked_in (λ j. entry_row (get_or m.entries j beyond)) t m.count k 0 room b (omega arith) in
      let a : (get_or m.entries k beyond).author ≤ 31 = leb-true _ _ (and_l (leb (get_or m.entries k beyond).author 31) _ (every_elim m.count (entry_holds m.entries m.count) (and_r (leb m.count 128) _ h) k b)) in
      omega arith
