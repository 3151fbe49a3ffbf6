-- One anchor of an outlook (01, 'Outlook'; 02, N6): its tests, its bytes, and the places that it takes.
use Rattle.std.specs.Prelude.{ℕ, suc, ◌+◌, ◌*◌, ◌-◌, ◌<◌, ◌≤◌, ◌≡◌, Bool, true, false, cond, ltb, get_or, set}
use Rattle.std.proofs.Math.Path.{refl, sym, ap, ap₂, subst}
use Rattle.std.proofs.Common.{◌∙◌, arith, length-append}
use mathlib.Core.List.{List, [], ◌∷◌, ◌++◌, append-nil}
use Rattle.std.proofs.Math.Numerals.{add-one}
use Rattle.std.proofs.Math.ListN.{length}
use borrow.Author.Tests.{lt-ltb, le-ltb, ltb-false}
use Rattle.laws.specs.Test.{by_test, clash}
use Rattle.laws.specs.Lists.{joined, joined-append}
use Rattle.laws.specs.Bytes.{be, be-length, written, written-length, and_then}
use Rattle.spec.specs.Ids.{id_bytes}
use Rattle.spec.specs.Store.{Point, Store, id_at}
use Rattle.spec.specs.Records.{id-length}
use Rattle.spec.specs.Chain.{Out, good, then, refuse}
use Rattle.spec.specs.History.{history, down_from, linked_counts, tested, outlook_bytes}
use Rattle.spec.specs.Outlook.{look_size}
use Rattle.spec.specs.Walk.{then-good, refuse-good}
use Rattle.models.specs.Digest.{Fit}
use Rattle.models.specs.Cert.{committed_word}
use Rattle.models.specs.Tables.{round_at, place_at, Used, Inside}
use Rattle.models.specs.Refusal.{refusal_of, unless_failed, failed, or_next}
use Rattle.models.specs.declared.refusal.Refusal.{Refusal}
use Rattle.dag_round_keys.specs.Sorted.{Sorted}
use Rattle.commit_state.specs.View.{point_at}
use Rattle.commit_state.specs.declared.state.State.{State}
use Rattle.tables_test.specs.View.{view}
use Rattle.tables_test.specs.Refines.{Started}
use Rattle.back_history.specs.Model.{is_uncommitted, Range}
use Rattle.back_history.specs.Supposing.{supposing, supposing_at, supposing-more, fresh_taken}
use Rattle.back_history.specs.RefinesNeeded.{used_point, used_round, lowest_is}
use Rattle.back_order.specs.Counts.{count_by, counts_by, counts-more}
use Rattle.back_order.specs.Refines.{counts_are}
use Rattle.back_committable.specs.declared.anchor.Gathered.{Gathered}
use Rattle.back_committable.specs.declared.anchor.Tested.{Tested}
use Rattle.back_committable.specs.Model.{history_span, gathered_in, gathered_of, tested_in, tested_of, gathered_span, span_asked, span_range}
use Rattle.back_committable.proofs.Refines.{tested-count}
use Rattle.answer_bytes.specs.Bytes.{place_id}
use Rattle.output_record.specs.Marks.{marks_all, marks-yes, marks_no}
use Rattle.std.specs.Prelude.{Err, Ok}
use Rattle.models.specs.Refusal.{Check, no_refusal}

-- ---- mirrors, of an anchor's history as it was gathered

-- the id (37 bytes), the number of points (4), a count for each round (4)
unfoldable pub look_long : List ℕ → ℕ → Gathered → ℕ
look_long ks a g = 41 + (round_at ks a + 1 - g.span.lowest.0) * 4

-- n: the used places
unfoldable pub look_bytes : ℕ → List ℕ → List ℕ → ℕ → Gathered → List ℕ
look_bytes n ks os a g = id_bytes (place_id ks a) ++ (be 4 g.count ++ joined (be 4) (counts_by ks os n g.marks (down_from (round_at ks a) (round_at ks a + 1 - g.span.lowest.0))))

-- what refuses it: its tests, then 21 with too few bytes left
unfoldable pub look_code : Check → ℕ → ℕ → Check
look_code c left n = or_next c (cond (ltb left n) (failed 21) no_refusal)

-- its history is taken: the words are supposed to be what its commit would leave
abbrev pub Took : List ℕ → List ℕ → List Bool → Gathered → List Bool → Type 0
Took cs os tk g tk' = (supposing tk' cs ≡ marks_all os g.marks g.span.low (supposing tk cs) g.span.high) × (length tk' ≡ 4096)

-- ---- the steps of the code

-- one position more, of the places tk that are taken so far
module _ (os cs : List ℕ) (m : List Bool) (low : ℕ) (ds : List ℕ) (tk tk' : List Bool) (i q : ℕ) (h : supposing tk cs ≡ marks_all os m low ds i) (is : q ≡ place_at os i) (w : Bool) (e : w ≡ is_uncommitted (supposing tk cs) m q) where
  pub take-yes : low ≤ i → q < length tk → q < length cs → w ≡ true → tk' ≡ set tk q true → supposing tk' cs ≡ marks_all os m low ds (i + 1)
  take-yes l n k t d =
      marks-yes os m low ds (supposing tk cs) (supposing tk' cs) i q h is l (sym e ∙ t) (committed_word (get_or cs q 0)) (ap committed_word (sym word)) (ap (λ (x : List Bool). supposing x cs) d ∙ supposing-more tk cs q n k)
    where
      free : get_or tk q false ≡ false
      free = by_test (get_or tk q false) (λ y. absurd (clash (sym e ∙ t) (sym (fresh_taken tk cs m q k y)))) (λ y. y)

      word : get_or (supposing tk cs) q 0 ≡ get_or cs q 0
      word = supposing_at tk cs q k ∙ rw free refl

  pub take_no : w ≡ false → tk' ≡ tk → supposing tk' cs ≡ marks_all os m low ds (i + 1)
  take_no t d = marks_no os m low ds (supposing tk cs) (supposing tk' cs) i q h is (sym e ∙ t) (ap (λ (x : List Bool). supposing x cs) d)

-- the history that was tested is the one that was gathered
module _ (s : State) (ks ls ds os : List ℕ) (a : ℕ) (y : Tested) (is : y ≡ tested_of s ks ls ds os a) where
  -- what refuses it, N the length of its bytes
  module _ (left n N : ℕ) (e : n ≡ N) where
    pub look-tested : (r : Refusal) → y.check ≡ Err r → Err r ≡ look_code (tested_of s ks ls ds os a).check left N
    unfolding look_code or_next
    look-tested r d = rw (sym (ap (λ (z : Tested). z.check) is) ∙ d) refl

    module _ (z : y.check ≡ no_refusal) where
      pub look_full : left < n → failed 21 ≡ look_code (tested_of s ks ls ds os a).check left N
      unfolding look_code or_next
      look_full l = rw (sym (ap (λ (z : Tested). z.check) is) ∙ z, ← e, lt-ltb left n l) refl

      pub look-pass : n ≤ left → no_refusal ≡ look_code (tested_of s ks ls ds os a).check left N
      unfolding look_code or_next
      look-pass l = rw (sym (ap (λ (z : Tested). z.check) is) ∙ z, ← e, le-ltb left n l) refl

  pub tested-size : (r : ℕ) → r ≡ round_at ks a → 41 + (r + 1 - y.lowest.0) * 4 ≡ look_long ks a (gathered_of s ks ls ds os a)
  unfolding look_long tested_of tested_in
  tested-size r o = ap₂ (λ (p : ℕ) (z : Tested). 41 + (p + 1 - z.lowest.0) * 4) o is

  -- its positions are scanned
  pub tested_range : (cs : List ℕ) → Fit ks → Fit ls → Started s ks ls cs os → Used os s.count a → Range cs os y.low y.high
  unfolding tested_of tested_in gathered_of gathered_in
  tested_range cs fk fl t used = subst (λ (z : Tested). Range cs os z.low z.high) (sym is) (span_range s ks ls cs os t a used fk fl (round_at ks a) (history_span s ks os (round_at ks a)) refl refl)

  pub tested_took : (cs : List ℕ) (tk tk' : List Bool) → (supposing tk' cs ≡ marks_all os y.marks y.low (supposing tk cs) y.high) × (length tk' ≡ 4096) → Took cs os tk (gathered_of s ks ls ds os a) tk'
  unfolding tested_of tested_in
  tested_took cs tk tk' (p, l) = (p ∙ ap (λ (z : Tested). marks_all os z.marks z.low (supposing tk cs) z.high) is, l)

-- the bytes of a history as it was gathered
module _ (ks os : List ℕ) (a n : ℕ) (x g : Gathered) (is : x ≡ g) (r : ℕ) (o : r ≡ round_at ks a) where
  pub gathered_size : 41 + (r + 1 - x.span.lowest.0) * 4 ≡ look_long ks a g
  unfolding look_long
  gathered_size = ap₂ (λ (p : ℕ) (z : Gathered). 41 + (p + 1 - z.span.lowest.0) * 4) o is

  -- one after the other, and their room
  pub gathered_next : (at m c end : ℕ) → m ≡ at + 37 → c ≡ m + 4 → end ≡ c + (r + 1 - x.span.lowest.0) * 4 → end ≡ at + look_long ks a g
  gathered_next at m c end d f e = omega (arith, d, f, e, gathered_size)

  pub gathered_holds : (at : ℕ) (b : List ℕ) → at + look_long ks a g ≤ length b → at + 41 + (r + 1 - x.span.lowest.0) * 4 ≤ length b
  gathered_holds at b l = omega (arith, l, gathered_size)

  pub gathered_bytes : (b b₁ b₂ b₃ : List ℕ) (at m c : ℕ) → m ≡ at + 37 → b₁ ≡ written b at (id_bytes (place_id ks a)) → c ≡ m + 4 → b₂ ≡ written b₁ m (be 4 x.count)
      → b₃ ≡ written b₂ c (joined (be 4) (counts_by ks os n x.marks (down_from r (r + 1 - x.span.lowest.0)))) → b₃ ≡ written b at (look_bytes n ks os a g)
  unfolding look_bytes
  gathered_bytes b b₁ b₂ b₃ at m c d p f q w =
      and_then b b₁ b₃ at m (id_bytes (place_id ks a)) _ 37 (id-length (place_id ks a)) d p (and_then b₁ b₂ b₃ m c (be 4 x.count) _ 4 (be-length 4 x.count) f q w)
      ∙ ap₂ (λ (k : ℕ) (z : Gathered). written b at (id_bytes (place_id ks a) ++ (be 4 z.count ++ joined (be 4) (counts_by ks os n z.marks (down_from k (k + 1 - z.span.lowest.0)))))) o is

  -- its places are taken
  pub gathered_took : (cs : List ℕ) (tk tk' : List Bool) → (supposing tk' cs ≡ marks_all os x.marks x.span.low (supposing tk cs) x.span.high) × (length tk' ≡ 4096) → Took cs os tk g tk'
  gathered_took cs tk tk' (p, l) = (p ∙ ap (λ (z : Gathered). marks_all os z.marks z.span.low (supposing tk cs) z.span.high) is, l)

-- ---- what the code is given

module _ (s : State) (ks ls cs os : List ℕ) (t : Started s ks ls cs os) (a : ℕ) (used : Used os s.count a) where
  pub look-sorted : Sorted ks os s.count
  look-sorted = t.facts.sorted

  pub look_range : Fit ks → Fit ls → (ds : List ℕ) (x : Gathered) → x ≡ gathered_of s ks ls ds os a → Range cs os x.span.low x.span.high
  look_range fk fl ds x is = span_range s ks ls cs os t a used fk fl (round_at ks a) x.span refl (gathered_span s ks ls ds os a x is)

  module _ (r : ℕ) (o : r ≡ round_at ks a) where
    pub look-round : r ≤ 4_000_000_000
    look-round = (span_asked s ks ls cs os t a used r o).1.1

    pub look-tables : (length ks ≡ length os * 8) × (s.count ≤ length os) × (length os ≤ 4096) × Inside os s.count (length os)
    look-tables = let p = (span_asked s ks ls cs os t a used r o).0 in (p.0, p.2, p.1, p.3)

-- ---- in 01's terms

-- "It is refused as the commit would be, by 20 never, by 21 for its own buffer": the anchor at a, left the bytes that are left
unfoldable pub look_at : Store → ℕ → ℕ → Out ℕ
look_at v left a = then (tested v a) (λ x. refuse (ltb left (look_size v a)) 21 (good a))

-- an anchor that passes has passed its tests, and has room for its bytes
pub look-good : (v : Store) (left a : ℕ) → look_at v left a ≡ good a → ((b : ℕ) × (tested v a ≡ good b)) × (look_size v a ≤ left)
unfolding look_at
look-good v left a h =
    let (x, p, q) = then-good (tested v a) (λ x. refuse (ltb left (look_size v a)) 21 (good a)) a h in
    ((x, p), ltb-false _ _ (refuse-good (ltb left (look_size v a)) 21 (good a) a q).0)

code_at : (v : Store) (left a : ℕ) (c : Check) → unless_failed c (good a) ≡ tested v a → unless_failed (look_code c left (look_size v a)) (good a) ≡ look_at v left a
unfolding look_at unless_failed look_code or_next refuse refusal_of
code_at v left a (Err r) h = rw (← h) refl
code_at v left a (Ok tt) h = rw (← h) (by (ltb left (look_size v a)))
  where
    by : (f : Bool) → unless_failed (cond f (failed 21) no_refusal) (good a) ≡ refuse f 21 (good a)
    by true = refl
    by false = refl

-- what the code finds out is what 01 says, of tables that count as started
module _ (s : State) (ks ls cs os : List ℕ) (fk : Fit ks) (fl : Fit ls) (t : Started s ks ls cs os) (a : ℕ) (used : Used os s.count a) where
  abbrev v : Store
  v = view s ks ls cs os

  pub long_is : look_long ks a (gathered_of s ks ls cs os a) ≡ look_size v a
  unfolding look_long look_size gathered_of gathered_in history_span
  long_is = ap₂ (λ (p q : ℕ). 41 + (p - q) * 4) (ap (λ (z : ℕ). z + 1) (sym (used_round s ks ls cs os fk fl t a used)) ∙ add-one _) (sym (lowest_is s ks ls cs os fk fl t a used))

  pub bytes_are : look_bytes s.count ks os a (gathered_of s ks ls cs os a) ≡ outlook_bytes v a
  unfolding look_bytes outlook_bytes gathered_of gathered_in history_span tested_of tested_in point_at
  bytes_are = λ i. id_bytes (id_is i) ++ (be 4 (number i) ++ joined (be 4) (counts i))
    where
      id_is : place_id ks a ≡ id_at v a
      id_is = sym (ap (λ (p : Point). p.id) (used_point s ks ls cs os fk fl t a used))

      number : (gathered_of s ks ls cs os a).count ≡ length (history v a)
      number = tested-count s ks ls cs os fk fl t a used

      counts : counts_by ks os s.count (gathered_of s ks ls cs os a).marks (down_from (round_at ks a) (round_at ks a + 1 - (gathered_of s ks ls cs os a).span.lowest.0)) ≡ linked_counts v a
      counts = counts_are s ks ls cs os fk fl t a used

  pub outcome_is : unless_failed (tested_of s ks ls cs os a).check (good a) ≡ tested v a → (left : ℕ) → unless_failed (look_code (tested_of s ks ls cs os a).check left (look_long ks a (gathered_of s ks ls cs os a))) (good a) ≡ look_at v left a
  outcome_is h left = ap (λ (n : ℕ). unless_failed (look_code (tested_of s ks ls cs os a).check left n) (good a)) long_is ∙ code_at v left a _ h

-- ---- the counts

-- those of k rounds from r down are written
pub record Counting (ks os : List ℕ) (n : ℕ) (m : List Bool) (r at : ℕ) (b₀ b : List ℕ) (next k : ℕ) : Type 0 where
  pub place : next ≡ at + k * 4
  pub size : length (joined (be 4) (counts_by ks os n m (down_from r k))) ≡ k * 4
  pub bytes : b ≡ written b₀ at (joined (be 4) (counts_by ks os n m (down_from r k)))

module _ (ks os : List ℕ) (n : ℕ) (m : List Bool) (r at : ℕ) (b₀ : List ℕ) where
  -- the bytes of k rounds
  abbrev fours : ℕ → List ℕ
  fours k = joined (be 4) (counts_by ks os n m (down_from r k))

  pub counting-none : Counting ks os n m r at b₀ b₀ at 0
  unfolding down_from joined written
  counting-none = record { place = omega arith; size = refl; bytes = refl }

  module _ (b : List ℕ) (next k : ℕ) (g : Counting ks os n m r at b₀ b next k) where
    pub counting_long : length b ≡ length b₀
    counting_long = ap length g.bytes ∙ written-length b₀ at (fours k)

    pub counting_more : (q c : ℕ) (b₁ : List ℕ) (e : ℕ) → q ≡ r - k → c ≡ count_by ks os n m q → e ≡ next + 4 → b₁ ≡ written b next (be 4 c) → Counting ks os n m r at b₀ b₁ e (k + 1)
    unfolding joined
    counting_more q c b₁ e d f p w = subst (Counting ks os n m r at b₀ b₁ e) (sym (add-one k)) (record {
      place = omega (arith, p, g.place);
      size = ap length all ∙ (length-append (fours k) (be 4 c) ∙ omega (arith, g.size, be-length 4 c));
      bytes = and_then b₀ b b₁ at next (fours k) (be 4 c) (k * 4) g.size g.place g.bytes w ∙ ap (written b₀ at) (sym all);
    })
      where
        all : fours (suc k) ≡ fours k ++ be 4 c
        all =
            ap (joined (be 4)) (counts-more ks os n m r [] 0 k) ∙ (joined-append (be 4) (counts_by ks os n m (down_from r k)) (count_by ks os n m (r - k) ∷ [])
            ∙ ap (λ (z : List ℕ). fours k ++ z) (append-nil (be 4 (count_by ks os n m (r - k))) ∙ ap (be 4) (sym (f ∙ ap (count_by ks os n m) d))))

    pub counting_end : (t : ℕ) → k ≡ t → (next ≡ at + t * 4) × (b ≡ written b₀ at (fours t))
    counting_end t z = subst (λ (y : ℕ). (next ≡ at + y * 4) × (b ≡ written b₀ at (fours y))) z (g.place, g.bytes)
