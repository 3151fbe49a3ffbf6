-- The signers that are reported at a round, and the ninth counter (01: inspector.rs, stats.rs).
use Prim.Native.Nat.{ℕ, zero, suc, ◌+◌, ◌-◌, ◌/◌, ◌%◌, ◌^◌, ◌<◌, ◌≤◌}
use Rattle.std.specs.Prelude.{◌≡◌, List, [], ◌∷◌, ◌++◌, map, Bool, ◌&&◌, cond, set, replicate}
use Rattle.std.proofs.Math.Path.{refl, sym, ap}
use Rattle.std.proofs.Common.{◌∙◌, arith, add-one, length-append, length-set, get_or-set_same, get_or-set_other, add-zero, eq-eqb, ne_eqb}
use Rattle.std.proofs.Math.Bool.{true, false, not}
use Rattle.std.proofs.Math.Dec.{eqb}
use Rattle.std.specs.Int.Bits.{bit_and, bit_or}
use Rattle.std.proofs.Math.ListN.{length, get_or, length-replicate, get_or-replicate, get_or-eq_default}
use Rattle.std.proofs.lemmas.Bool.{not-true, not-false}
use Rattle.laws.specs.Test.{by_test, same_or, le_or, and-true, and_no_r}
use Rattle.laws.specs.Scan.{any, any_same, any_intro, those, those-yes, those_no, those-same}
use Rattle.laws.specs.Lists.{has, has_same, keep, keep_append, up_to}
use Rattle.laws.specs.Peers.{member}
use Rattle.spec.specs.Ids.{prev}
use Rattle.spec.specs.Store as store
use Rattle.spec.specs.Store.{Store, Entry, Memory, Point}
use Rattle.spec.specs.Rules.{counts_as_started}
use Rattle.spec.specs.Inspect.{of, is_trusted, places_in, reported, proofs, authored_then, authored_now, is_nil, not_referenced}
use Rattle.spec.specs.Inspection.{Ascending}
use Rattle.models.specs.Digest.{Fit}
use Rattle.models.specs.Tables.{author_at, Used}
use Rattle.commit_state.specs.View.{point_at}
use Rattle.commit_state.specs.declared.state.State.{State}
use Rattle.tables_test.specs.View.{view}
use Rattle.tables_test.specs.Refines.{counted}
use Rattle.back_history.specs.RefinesNeeded.{used_point}
use Rattle.inspector_references.specs.Sets.{union_of, union_yes, union_member, and-member, none-member, one-member}
use Rattle.inspector_references.specs.Trusted.{Listed, has-take, has-keep}
use Rattle.inspector_references.specs.Referring.{row_author, Retained, trusted_used}
use Rattle.inspector_rows.specs.Rows.{entry_at, entries_of, has-entries}
use Rattle.inspector_not_referenced.specs.Excluded.{excluded, reported_is}

-- each of them
abbrev pub always : ℕ → Bool
always j = true

-- the authors of the first n rows
unfoldable pub row_authors : List ℕ → ℕ → ℕ
row_authors rs n = union_of always (λ j. 2 ^ row_author rs j) n

-- those of the points at the first m places
unfoldable pub place_authors : List ℕ → List ℕ → ℕ → ℕ
place_authors ks l m = union_of always (λ j. 2 ^ author_at ks (get_or l j 0)) m

-- those that made points at both rounds
unfoldable pub active_of : List ℕ → List ℕ → ℕ → Bool → List ℕ → ℕ → ℕ
active_of ks l m adjacent rs n = cond adjacent (bit_and (row_authors rs n) (place_authors ks l m)) 0

-- the signers reported by row k
unfoldable pub cell_of : List ℕ → List ℕ → List ℕ → ℕ → Bool → Bool → List ℕ → ℕ → ℕ → ℕ
cell_of ks ls l m live adjacent rs n k = bit_and (excluded ks ls l m live rs n k) (active_of ks l m adjacent rs n)

-- the first n of 128 cells, the others 0, and their union
pub record Cells (cell : ℕ → ℕ) (n : ℕ) (sets : List ℕ) (signers : ℕ) : Type 0 where
  pub size : length sets ≡ 128
  pub cells : (k : ℕ) → k < n → get_or sets k 0 ≡ cell k
  pub rest : (k : ℕ) → n ≤ k → get_or sets k 0 ≡ 0
  pub union : signers ≡ union_of always cell n

-- by how many of the first n sets peer a is held
unfoldable pub skipped_by : List ℕ → ℕ → ℕ → ℕ
skipped_by l n a = length (those n (λ k. member (get_or l k 0) a))

-- ---- the steps of the code

pub active_not : (ks l : List ℕ) (m : ℕ) (adjacent : Bool) (rs : List ℕ) (n : ℕ) → not adjacent ≡ true → 0 ≡ active_of ks l m adjacent rs n
unfolding active_of
active_not ks l m adjacent rs n t = rw (not-true adjacent t) refl

pub active_by : (ks l : List ℕ) (m : ℕ) (adjacent : Bool) (rs : List ℕ) (n x y r : ℕ) → not adjacent ≡ false → x ≡ row_authors rs n → y ≡ place_authors ks l m → r ≡ bit_and x y → r ≡ active_of ks l m adjacent rs n
unfolding active_of
active_by ks l m adjacent rs n x y r t e f h = rw (not-false adjacent t, ← e, ← f) h

pub cell_by : (ks ls l : List ℕ) (m : ℕ) (live adjacent : Bool) (rs : List ℕ) (n k x y : ℕ) → x ≡ excluded ks ls l m live rs n k → y ≡ active_of ks l m adjacent rs n → bit_and x y ≡ cell_of ks ls l m live adjacent rs n k
unfolding cell_of
cell_by ks ls l m live adjacent rs n k x y e f = λ i. bit_and (e i) (f i)

module _ (cell : ℕ → ℕ) where
  pub cells_none : Cells cell 0 (replicate 128 0) 0
  unfolding union_of
  cells_none = record { size = length-replicate {A = ℕ} 128 0; cells = λ k l. absurd (omega arith); rest = λ k l. none k; union = refl }
    where
      none : (k : ℕ) → get_or {A = ℕ} (replicate 128 0) k 0 ≡ 0
      none k = le_or 128 k (λ l. get_or-eq_default {A = ℕ} (replicate 128 0) 0 {n = k} (omega (arith, length-replicate {A = ℕ} 128 0))) (λ l. get_or-replicate {A = ℕ} 128 k 0 0 l)

  pub cells_more : (k g : ℕ) (l r : List ℕ) (x y : ℕ) → Cells cell k l g → k < 128 → x ≡ cell k → r ≡ set l k x → y ≡ bit_or g x → Cells cell (k + 1) r y
  cells_more k g l r x y h m e d f = record {
    size = ap length d ∙ (length-set l k x ∙ h.size);
    cells = λ j o. ap (λ (z : List ℕ). get_or z j 0) d ∙ same_or j k
        (λ i. rw i (get_or-set_same l k x 0 (omega (arith, h.size)) ∙ e))
        (λ i. get_or-set_other l k j x 0 i ∙ h.cells j (omega arith));
    rest = λ j o. ap (λ (z : List ℕ). get_or z j 0) d ∙ (get_or-set_other l k j x 0 (λ i. omega arith) ∙ h.rest j (omega arith));
    union = union_yes always cell k g y h.union true refl x refl e f;
  }

  pub cells_end : (k n g : ℕ) (l : List ℕ) → Cells cell k l g → k ≤ n → n ≤ k → Cells cell n l g
  cells_end k n g l h a b = let e : k ≡ n = omega arith in rw e at h

-- no row, one row more that has the peer or not, and all of them
module _ (l : List ℕ) (a : ℕ) where
  pub skipped_none : 0 ≡ skipped_by l 0 a
  unfolding skipped_by those
  skipped_none = refl

  module _ (k g r : ℕ) (e : g ≡ skipped_by l k a) where
    pub skipped_yes : get_or l k 0 / 2 ^ a % 2 ≡ 1 → r ≡ g + 1 → r ≡ skipped_by l (k + 1) a
    unfolding skipped_by member
    skipped_yes t h = rw (add-one k) (h ∙ (add-one g ∙ (ap suc e ∙ sym (those-yes k (λ j. member (get_or l j 0) a) (eq-eqb _ _ t)))))

    pub skipped_no : (get_or l k 0 / 2 ^ a % 2 ≡ 1 → ⊥) → r ≡ g → r ≡ skipped_by l (k + 1) a
    unfolding skipped_by member
    skipped_no t h = rw (add-one k) (h ∙ (e ∙ sym (those_no k (λ j. member (get_or l j 0) a) (ne_eqb _ _ t))))

  pub skipped_end : (k g n : ℕ) → g ≡ skipped_by l k a → k ≤ n → n ≤ k → g ≡ skipped_by l n a
  skipped_end k g n e b d = let z : k ≡ n = omega arith in rw z at e

-- ---- 01's

-- some are kept
kept_some : {A : Type 0} (f : A → Bool) (l : List A) → not (is_nil (keep f l)) ≡ has f l
unfolding keep has is_nil
kept_some f [] = refl
kept_some f (x ∷ xs) = by_test (f x) (λ t. rw t refl) (λ t. rw t (kept_some f xs))

map-nil : {A B : Type 0} (f : A → B) (l : List A) → is_nil (map f l) ≡ is_nil l
unfolding is_nil
map-nil f [] = refl
map-nil f (x ∷ xs) = refl

-- one of the entries passes
has_all : (f : Entry → Bool) (rs : List ℕ) (n : ℕ) → has f (entries_of rs n) ≡ any n (λ k. f (entry_at rs k))
has_all f rs n = has-entries rs f n 0 (omega arith) ∙ any_plain n
  where
    any_plain : (n : ℕ) → any (n - 0) (λ i. f (entry_at rs (0 + i))) ≡ any n (λ k. f (entry_at rs k))
    any_plain n = let z : n - 0 ≡ n = omega arith in rw z (any_same n _ _ (λ i l. let y : 0 + i ≡ i = omega arith in ap (λ k. f (entry_at rs k)) y))

-- as many entries as rows pass
count_entries : (f : Entry → Bool) (rs : List ℕ) (n : ℕ) → length (those n (λ k. f (entry_at rs k))) ≡ length (keep f (entries_of rs n))
unfolding entries_of up_to keep those
count_entries f rs zero = refl
count_entries f rs (suc n) =
    let r : length (those n (λ k. f (entry_at rs k))) ≡ length (keep f (entries_of rs n)) = count_entries f rs n in
    let e : length (keep f (entries_of rs n ++ (entry_at rs n ∷ []))) ≡ length (keep f (entries_of rs n)) + length (keep f (entry_at rs n ∷ [])) = ap length (keep_append f (entries_of rs n) (entry_at rs n ∷ [])) ∙ length-append (keep f (entries_of rs n)) (keep f (entry_at rs n ∷ [])) in
    by_test (f (entry_at rs n))
    (λ t. those-yes n (λ k. f (entry_at rs k)) t ∙ (ap suc r ∙ (sym (add-one (length (keep f (entries_of rs n)))) ∙ sym (e ∙ rw t refl))))
    (λ t. those_no n (λ k. f (entry_at rs k)) t ∙ (r ∙ (sym (add-zero (length (keep f (entries_of rs n)))) ∙ sym (e ∙ rw t refl))))

-- none, or those of f
any-and : (b : Bool) (n : ℕ) (f : ℕ → Bool) → any n (λ k. b && f k) ≡ (b && any n f)
unfolding any
any-and true n f = refl
any-and false zero f = refl
any-and false (suc n) f = any-and false n f

those-none : (n : ℕ) → length (those n (λ k. false)) ≡ 0
unfolding those
those-none zero = refl
those-none (suc n) = those-none n

module _ (s : State) (ks ls cs os : List ℕ) (fk : Fit ks) (fl : Fit ls) (h : counts_as_started (view s ks ls cs os) ≡ true) (x : ℕ) (l : List ℕ) (m : ℕ) (live : Bool)
    (here : Listed l m (keep (is_trusted (view s ks ls cs os)) (places_in (view s ks ls cs os) x)))
    (rs : List ℕ) (n : ℕ) (from : live ≡ true → (k : ℕ) → k < n → Retained s ks ls os x 1 rs k) (rises : Ascending (entries_of rs n))
    (last : ℕ) (adjacent : Bool) (is : adjacent ≡ eqb last (prev x)) (a : ℕ) where
  abbrev v : Store
  v = view s ks ls cs os

  -- the memory that the rows hold
  abbrev memory : Memory
  memory = record { last = last; entries = entries_of rs n }

  abbrev reports : Entry → Bool
  reports = reported (entries_of rs n) v x a

  abbrev cell : ℕ → ℕ
  cell = cell_of ks ls l m live adjacent rs n

  then_is : member (row_authors rs n) a ≡ not (is_nil (authored_then (entries_of rs n) a))
  unfolding row_authors authored_then entry_at
  then_is =
      union_member always (λ j. 2 ^ row_author rs j) n a
      ∙ (any_same n _ _ (λ j i. one-member (row_author rs j) a)
      ∙ (sym (has_all (λ e. eqb e.author a) rs n)
      ∙ (sym (kept_some (λ (e : Entry). eqb e.author a) (entries_of rs n)) ∙ ap not (sym (map-nil (λ (e : Entry). e.digest) (keep (λ (e : Entry). eqb e.author a) (entries_of rs n)))))))

  now_is : member (place_authors ks l m) a ≡ not (is_nil (authored_now v x a))
  unfolding place_authors authored_now point_at
  now_is =
      union_member always (λ j. 2 ^ author_at ks (get_or l j 0)) m a
      ∙ (any_same m _ _ (λ j i. one-member (author_at ks (get_or l j 0)) a)
      ∙ (sym (has-take (λ q. eqb (author_at ks q) a) l 0 m (omega (arith, here.size, here.few)))
      ∙ (ap (has (λ q. eqb (author_at ks q) a)) here.are
      ∙ (has-keep (is_trusted v) (λ q. eqb (author_at ks q) a) (places_in v x)
      ∙ (has_same _ _ (places_in v x) (λ q i. by_test (is_trusted v q)
      (λ y. rw y (ap (λ z. eqb z a) (author q (trusted_used s ks ls cs os fk fl h x q i y).0) ∙ sym (and-true (eqb (store.id_at v q).author a))))
      (λ y. rw y (sym (and_no_r (eqb (store.id_at v q).author a) refl))))
      ∙ (sym (kept_some (of (is_trusted v) v a) (places_in v x)) ∙ ap not (sym (map-nil (λ q. (store.id_at v q).digest) (keep (of (is_trusted v) v a) (places_in v x))))))))))
    where
      author : (q : ℕ) → Used os s.count q → author_at ks q ≡ (store.id_at v q).author
      author q u = ap (λ (p : Point). p.id.author) (sym (used_point s ks ls cs os fk fl (counted s ks ls cs os fk fl h) q u))

  active_is : member (active_of ks l m adjacent rs n) a ≡ (eqb last (prev x) && (not (is_nil (authored_then (entries_of rs n) a)) && not (is_nil (authored_now v x a))))
  unfolding active_of
  active_is =
      by_test adjacent
      (λ t. rw (t, ← is, t) (and-member (row_authors rs n) (place_authors ks l m) a ∙ (λ i. then_is i && now_is i)))
      (λ t. rw (t, ← is, t) (none-member a))

  -- one is reported exactly if a row reports it
  proofs_is : not (is_nil (proofs (entries_of rs n) v x a)) ≡ any n (λ k. reports (entry_at rs k))
  unfolding proofs
  proofs_is = kept_some reports (entries_of rs n) ∙ has_all reports rs n

  -- cell k holds the signers that 01 reports by entry k
  pub cell_is : (k : ℕ) → k < n → member (cell k) a ≡ (not_referenced memory v x a && reports (entry_at rs k))
  unfolding cell_of not_referenced
  cell_is k low =
      and-member (excluded ks ls l m live rs n k) (active_of ks l m adjacent rs n) a
      ∙ ((λ i. reported_is s ks ls cs os fk fl h x l m live here rs n k low (λ y. from y k low) rises a i && active_is i)
      ∙ join (reports (entry_at rs k)) (eqb last (prev x)) (not (is_nil (proofs (entries_of rs n) v x a))) (not (is_nil (authored_then (entries_of rs n) a)) && not (is_nil (authored_now v x a)))
      (λ t. proofs_is ∙ any_intro n (λ k. reports (entry_at rs k)) k low t))
    where
      join : (b c p d : Bool) → (b ≡ true → p ≡ true) → (b && (c && d)) ≡ ((c && (p && d)) && b)
      join true c p d f = rw (f refl) (sym (and-true (c && d)))
      join false c p d f = sym (and_no_r (c && (p && d)) refl)

  -- so the union holds all that 01 reports
  pub signers_is : member (union_of always cell n) a ≡ not_referenced memory v x a
  unfolding not_referenced
  signers_is =
      union_member always cell n a
      ∙ (any_same n _ _ (λ k low. cell_is k low)
      ∙ (any-and (not_referenced memory v x a) n (λ k. reports (entry_at rs k))
      ∙ (ap (λ z. not_referenced memory v x a && z) (sym proofs_is)
      ∙ absorb (eqb last (prev x)) (not (is_nil (proofs (entries_of rs n) v x a))) (not (is_nil (authored_then (entries_of rs n) a)) && not (is_nil (authored_now v x a))))))
    where
      absorb : (c p d : Bool) → ((c && (p && d)) && p) ≡ (c && (p && d))
      absorb false p d = refl
      absorb true false d = refl
      absorb true true d = and-true d

  -- the ninth counter
  pub skipped_is : (sets : List ℕ) (signers : ℕ) → Cells cell n sets signers → skipped_by sets n a ≡ cond (not_referenced memory v x a) (length (proofs (entries_of rs n) v x a)) 0
  unfolding proofs skipped_by
  skipped_is sets signers c =
      ap length (those-same n _ (λ k. not_referenced memory v x a && reports (entry_at rs k)) (λ k low. ap (λ z. member z a) (c.cells k low) ∙ cell_is k low))
      ∙ by_test (not_referenced memory v x a)
      (λ t. rw t (count_entries reports rs n))
      (λ t. rw t (those-none n))
