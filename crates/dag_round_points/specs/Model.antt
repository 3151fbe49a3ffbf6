-- What naming is refused with, and what it leaves of the state and the tables (01: 'Refusals' 4 to 8).
use Rattle.std.specs.Prelude.{ℕ, zero, suc, ◌+◌, ◌*◌, ◌<◌, ◌≤◌, ◌≡◌, Bool, true, false, not, ◌&&◌, cond, eqb, leb, ltb, length, get_or}
use Rattle.std.proofs.Math.Path.{refl, sym, ap, ap₂}
use Rattle.std.proofs.Common.{◌∙◌, arith, add-one}
use mathlib.Core.List.{List, [], ◌∷◌}
use Rattle.std.proofs.Math.ListN.{set}
use borrow.Author.Tests.{eq-eqb, ne_eqb, le-leb, lt-leb, le-ltb, lt-ltb}
use Rattle.laws.specs.Test.{le_or, and_no, and_yes, cond_yes, cond_no}
use Rattle.laws.specs.Scan.{those, those-yes, those_no}
use Rattle.laws.specs.Peers.{member}
use Rattle.models.specs.Tables.{round_at, author_at, place_at, Inside}
use Rattle.models.specs.declared.parts.PointId.{PointId}
use Rattle.dag_round_keys.specs.Key.{key}
use Rattle.dag_round_keys.specs.Sorted.{Sorted, place_of, standing}
use Rattle.dag_round_order.specs.Free.{first_free}
use Rattle.dag_round_order.specs.Shift.{inserted}
use Rattle.dag_round_order.specs.Store.{stored}
use Rattle.commit_state.specs.View.{record_of}
use Rattle.commit_state.specs.declared.state.State.{State}

-- what the tables must be for naming to read them
abbrev pub Ready : State → List ℕ → List ℕ → Type 0
Ready s ks os = (length ks ≡ length os * 8) × (length os ≤ 4096) × (s.count ≤ length os) × Inside os s.count (length os) × Sorted ks os s.count

-- the words of a place that is named: round, author, digest, status and marks 0
unfoldable pub id_words : PointId → List ℕ
id_words i = let d = i.digest.0 in i.round.0 ∷ i.author ∷ get_or d 0 0 ∷ get_or d 1 0 ∷ get_or d 2 0 ∷ get_or d 3 0 ∷ 0 ∷ 0 ∷ []

-- the place q has the round r and the author a
unfoldable pub is_version : List ℕ → ℕ → ℕ → ℕ → Bool
is_version ks r a q = eqb (round_at ks q) r && eqb (author_at ks q) a

-- the place at position i has them
abbrev pub version_at : List ℕ → List ℕ → ℕ → ℕ → ℕ → Bool
version_at ks os r a i = is_version ks r a (place_at os i)

-- the first of two numbers that is not 0
unfoldable pub or_else : ℕ → ℕ → ℕ
or_else zero m = m
or_else (suc n) m = suc n

-- 5, 6 or 5: what an id is refused with
unfoldable pub id_code : State → PointId → ℕ
id_code s i =
    let r = i.round.0 in
    cond (leb 32 i.author) 5 (cond (not (leb s.bottom.0 r && leb r s.top.0)) 6 (cond (not (member (record_of s.rounds r).peers i.author)) 5 0))

-- 7, 8 or 4: what the words w of an id are refused with
unfoldable pub table_code : List ℕ → List ℕ → ℕ → List ℕ → ℕ
table_code ks os n w =
    cond (ltb (standing ks os n (key w 0)) n) 7 (cond (leb 4 (length (those n (version_at ks os (get_or w 0 0) (get_or w 1 0))))) 8 (cond (ltb (first_free os n (length os)) (length os)) 0 4))

-- what naming is refused with, 0 if it is not
unfoldable pub name_code : State → List ℕ → List ℕ → PointId → ℕ
name_code s ks os i = or_else (id_code s i) (table_code ks os s.count (id_words i))

-- the place that is taken
abbrev pub taken : State → List ℕ → ℕ
taken s os = first_free os s.count (length os)

-- the state with one place more in use
unfoldable pub named_state : State → State
named_state s = record {
  phase = s.phase;
  count = s.count + 1;
  genesis = s.genesis;
  commit_history_rounds = s.commit_history_rounds;
  deduplicate_rounds = s.deduplicate_rounds;
  bottom = s.bottom;
  top = s.top;
  last_committed_proof = s.last_committed_proof;
  last_anchor = s.last_anchor;
  full_history_bottom = s.full_history_bottom;
  first_executable = s.first_executable;
  emit_first_after_gap = s.emit_first_after_gap;
  rounds = s.rounds;
  memory = s.memory;
}

-- the keys with the id in that place
unfoldable pub named_keys : State → List ℕ → List ℕ → PointId → List ℕ
named_keys s ks os i = stored ks (id_words i) (taken s os) 8

-- the certificate words with 0 there
unfoldable pub named_certs : State → List ℕ → List ℕ → List ℕ
named_certs s cs os = set cs (taken s os) 0

-- the order with that place where the id's key belongs
unfoldable pub named_order : State → List ℕ → List ℕ → PointId → List ℕ
named_order s ks os i = inserted os s.count (place_of ks os s.count (key (id_words i) 0)) (taken s os)

-- ---- the steps of the code

-- eight words
pub words_eight : (i : PointId) → length (id_words i) ≡ 8
unfolding id_words
words_eight i = refl

-- another round
pub version_not : (ks : List ℕ) (r a q x : ℕ) → x ≡ round_at ks q → (x ≡ r → ⊥) → false ≡ is_version ks r a q
unfolding is_version
version_not ks r a q x e d = sym (and_no _ (ne_eqb (round_at ks q) r (λ h. d (e ∙ h))))

-- the same round
pub version_by : (ks : List ℕ) (r a q x y : ℕ) → x ≡ round_at ks q → y ≡ author_at ks q → x ≡ r → eqb y a ≡ is_version ks r a q
unfolding is_version
version_by ks r a q x y e f h = rw f (sym (and_yes (eq-eqb (round_at ks q) r (sym e ∙ h)) refl))

-- one position more, which passes
pub count_yes : (f : ℕ → Bool) (i c : ℕ) → c ≡ length (those i f) → f i ≡ true → c + 1 ≡ length (those (i + 1) f)
count_yes f i c e h = rw (add-one i, add-one c) (ap suc e ∙ sym (those-yes i f h))

-- one position more, which fails
pub count_no : (f : ℕ → Bool) (i c : ℕ) → c ≡ length (those i f) → f i ≡ false → c ≡ length (those (i + 1) f)
count_no f i c e h = rw (add-one i) (e ∙ sym (those_no i f h))

-- the words v of the id are put into the place q
module _ (s : State) (ks cs os : List ℕ) (i : PointId) (v : List ℕ) (q : ℕ) (words : v ≡ id_words i) (at : q ≡ taken s os) where
  pub named_keys_lem : (us : List ℕ) → us ≡ stored ks v q 8 → us ≡ named_keys s ks os i
  unfolding named_keys
  named_keys_lem us e = e ∙ ap₂ (λ (w : List ℕ) (x : ℕ). stored ks w x 8) words at

  pub named_certs_lem : set cs q 0 ≡ named_certs s cs os
  unfolding named_certs
  named_certs_lem = ap (λ (x : ℕ). set cs x 0) at

  pub named_order_lem : (ps : List ℕ) → ps ≡ inserted os s.count (place_of ks os s.count (key v 0)) q → ps ≡ named_order s ks os i
  unfolding named_order
  named_order_lem ps e = e ∙ ap₂ (λ (w : List ℕ) (x : ℕ). inserted os s.count (place_of ks os s.count (key w 0)) x) words at

module _ (s : State) (i : PointId) where
  -- the author is no peer's number
  pub code_author : 32 ≤ i.author → 5 ≡ id_code s i
  unfolding id_code
  code_author l = rw (le-leb 32 i.author l) refl

  -- the round is below the bottom
  pub code_below : i.author < 32 → i.round.0 < s.bottom.0 → 6 ≡ id_code s i
  unfolding id_code
  code_below l m = rw (lt-leb 32 i.author l, and_no (leb i.round.0 s.top.0) (lt-leb s.bottom.0 i.round.0 m)) refl

  -- the round is above the top
  pub code_above : i.author < 32 → s.bottom.0 ≤ i.round.0 → s.top.0 < i.round.0 → 6 ≡ id_code s i
  unfolding id_code
  code_above l m k = rw (lt-leb 32 i.author l, le-leb s.bottom.0 i.round.0 m, lt-leb i.round.0 s.top.0 k) refl

  -- the author is asked for among the round's peers
  pub code_peer : i.author < 32 → s.bottom.0 ≤ i.round.0 → i.round.0 ≤ s.top.0 → (p : Bool) → p ≡ member (record_of s.rounds i.round.0).peers i.author → cond (not p) 5 0 ≡ id_code s i
  unfolding id_code
  code_peer l m k p e = rw (lt-leb 32 i.author l, le-leb s.bottom.0 i.round.0 m, le-leb i.round.0 s.top.0 k, e) refl

-- the second, after 0
pub else_next : (b c : ℕ) → b ≡ 0 → c ≡ or_else b c
unfolding or_else
else_next zero c d = refl
else_next (suc b) c d = absurd (omega arith)

-- neither is other than 0
pub else_zero : (b c : ℕ) → or_else b c ≡ 0 → (b ≡ 0) × (c ≡ 0)
unfolding or_else
else_zero zero c h = (refl, h)
else_zero (suc b) c h = absurd (omega arith)

module _ (ks os : List ℕ) (n : ℕ) (w : List ℕ) where
  -- the position of the id's key
  abbrev at : ℕ
  at = standing ks os n (key w 0)

  -- the versions of its author in its round
  abbrev count : ℕ
  count = length (those n (version_at ks os (get_or w 0 0) (get_or w 1 0)))

  -- the lowest free place
  abbrev place : ℕ
  place = first_free os n (length os)

  -- the code seeks the id's words
  pub sought : (v : List ℕ) (x : ℕ) → v ≡ w → x ≡ standing ks os n (key v 0) → x ≡ at
  sought v x words e = e ∙ ap (λ (u : List ℕ). standing ks os n (key u 0)) words

  -- the digest is named in this round
  pub table_same_digest : (x : ℕ) → x ≡ at → x < n → 7 ≡ table_code ks os n w
  unfolding table_code
  table_same_digest x e l = sym (cond_yes 7 _ 7 (lt-ltb at n (omega arith)) refl)

  -- a fifth digest
  pub table_fifth : (x y : ℕ) → x ≡ at → n ≤ x → y ≡ count → 4 ≤ y → 8 ≡ table_code ks os n w
  unfolding table_code
  table_fifth x y e l f m = sym (cond_no 7 _ 8 (le-ltb at n (omega arith)) (cond_yes 8 _ 8 (le-leb 4 count (omega arith)) refl))

  -- the last test is made
  last : n ≤ at → count < 4 → table_code ks os n w ≡ cond (ltb place (length os)) 0 4
  unfolding table_code
  last l m = cond_no 7 _ _ (le-ltb at n l) (cond_no 8 _ _ (lt-leb 4 count m) refl)

  -- there is a free place
  pub table_free : (x y z : ℕ) → x ≡ at → n ≤ x → y ≡ count → y < 4 → z ≡ place → z < length os → 0 ≡ table_code ks os n w
  table_free x y z e l f m g k = sym (last (omega arith) (omega arith) ∙ cond_yes 0 4 0 (lt-ltb place (length os) (omega arith)) refl)

  -- there is none
  pub table_full : (x y z : ℕ) → x ≡ at → n ≤ x → y ≡ count → y < 4 → z ≡ place → length os ≤ z → 4 ≡ table_code ks os n w
  table_full x y z e l f m g k = sym (last (omega arith) (omega arith) ∙ cond_no 0 4 4 (le-ltb place (length os) (omega arith)) refl)

  -- what is not refused: no twin, fewer than four versions, a free place
  pub table_zero : table_code ks os n w ≡ 0 → (n ≤ at) × (count < 4) × (place < length os)
  table_zero h =
      le_or n at
      (λ l. le_or 4 count
      (λ m. absurd (omega (arith, table_fifth at count refl l refl m)))
      (λ m. le_or (length os) place
      (λ k. absurd (omega (arith, table_full at count place refl l refl m refl k)))
      (λ k. (l, m, k))))
      (λ l. absurd (omega (arith, table_same_digest at refl l)))

-- a point that is not refused
pub name-zero : (s : State) (ks os : List ℕ) (i : PointId) → name_code s ks os i ≡ 0 → (id_code s i ≡ 0) × (table_code ks os s.count (id_words i) ≡ 0)
unfolding name_code
name-zero s ks os i h = else_zero _ _ h
