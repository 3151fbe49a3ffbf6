-- Theorems on the definitions of specs/Records.
use Prim.Native.Nat.{ℕ, suc, ◌+◌, ◌-◌, ◌*◌, ◌^◌, ◌≤◌, ◌<◌}
use Rattle.std.specs.Prelude.{◌≡◌, true, length, take, drop, eqb}
use Rattle.std.proofs.Math.Path.{refl}
use Rattle.std.proofs.Common.{sym, ◌∙◌, subst, ap, ap₂, length-append, take-append-drop, take_at, drop_at, drop-drop, arith, add-zero}
use mathlib.Core.List.{List, [], ◌∷◌, ◌++◌, map, append_assoc, append-nil, Memᴰ}
use Rattle.laws.specs.Test.{by_test}
use Rattle.laws.specs.Lists.{map_same, joined}
use Rattle.laws.specs.Bytes.{be, be-length, value, written, written-length}
use Rattle.spec.specs.Ids.{id_bytes}
use Rattle.spec.specs.Store.{Store, id_at}
use Rattle.spec.specs.Chain.{good, EnqueuedAnchor}
use Rattle.spec.specs.History.{history, linked_counts, lists_ok, rounds_of, drawn, in_order, summed, sum_bytes, links_by, behind, word_for, link_bytes, tail_bytes, record_bytes, test_anchor, Finished, commit_all}
use Rattle.spec.specs.Demand.{read_id, read_ids, History, tail_size, read_records}
use Rattle.spec.specs.WellFormed.{Wf}
use Rattle.spec.proofs.OrderInRound.{order_length}
use Rattle.spec.proofs.Walk.{test_good}
use Rattle.spec.specs.Records.{skip, as_read, read_id_lem, as_read_lem, id-length, ids-length, read_ids_lem, as_reads, head_bytes, head_length, record_shape, drawn-ids, record_anchor, points_at_lem, read_as, read_bytes, Event, passed, bytes_of, take_more, every-commit, Buffered, Readable}

-- what is told of each point: 45 bytes
pub word-length : (s : Store) (a q : ℕ) → length (word_for s a q) ≡ 8
unfolding word_for
word-length s a q = by_test (eqb q a) (λ t. rw t refl) (λ f. by_test (links_by 1 (s.pt (behind s a q)) (s.pt q)) (λ t. rw (f, t) refl) (λ g. rw (f, g) refl))

pub link-length : (s : Store) (a q : ℕ) → length (link_bytes s a q) ≡ 45
unfolding link_bytes
link-length s a q = length-append (id_bytes (id_at s (behind s a q))) (word_for s a q) ∙ ap₂ ◌+◌ (id-length (id_at s (behind s a q))) (word-length s a q)

pub links-length : (s : Store) (a : ℕ) (ps : List ℕ) → length (joined (link_bytes s a) ps) ≡ length ps * 45
unfolding joined
links-length s a [] = refl
links-length s a (p ∷ ps) = length-append (link_bytes s a p) (joined (link_bytes s a) ps) ∙ (ap₂ ◌+◌ (link-length s a p) (links-length s a ps) ∙ more (length ps))
  where
    more : (n : ℕ) → 45 + n * 45 ≡ suc n * 45
    more n = omega arith

-- what follows the ids of a record, in bytes
pub tail_length : (s : Store) (ls : List ℕ) (a : ℕ) → length (tail_bytes s ls a) ≡ tail_size (length (in_order s a ls))
unfolding tail_bytes sum_bytes
tail_length s ls a =
    length-append (joined (link_bytes s a) (drawn s a (rounds_of s a) ls)) _
    ∙ ap₂ ◌+◌ (links-length s a (drawn s a (rounds_of s a) ls) ∙ ap (λ n. n * 45) (sym (drawn-ids s ls a))) (length-append (be 8 (summed (λ t. t.payload_len) s a)) _ ∙ ap₂ ◌+◌ (be-length 8 _) (be-length 8 _))

-- its length: 83 bytes, 37 for each point, and what follows
pub record_size_lem : (s : Store) (ls : List ℕ) (e : EnqueuedAnchor) → length (record_bytes s ls e) ≡ 83 + length (in_order s e.anchor ls) * 37 + tail_size (length (in_order s e.anchor ls))
record_size_lem s ls e =
    ap length (sym (append-nil (record_bytes s ls e)) ∙ record_shape s ls e [])
    ∙ (length-append (head_bytes s e) _ ∙ (ap₂ ◌+◌ (head_length s e) (length-append (be 4 _) _
    ∙ ap₂ ◌+◌ (be-length 4 _) (length-append (joined id_bytes (in_order s e.anchor ls)) _
    ∙ ap₂ ◌+◌ (ids-length (in_order s e.anchor ls)) (ap length (append-nil (tail_bytes s ls e.anchor)) ∙ tail_length s ls e.anchor))) ∙ add_up (length (in_order s e.anchor ls) * 37) (tail_size (length (in_order s e.anchor ls)))))
  where
    add_up : (n m : ℕ) → 79 + (4 + (n + m)) ≡ 83 + n + m
    add_up n m = omega arith

-- with right lists, as many points as the history has
pub record_length_lem : (s : Store) → Wf s → (ls : List ℕ) (e : EnqueuedAnchor) → (s.pt e.anchor).named ≡ true → lists_ok (linked_counts s e.anchor) ls ≡ true → length (record_bytes s ls e) ≡ 83 + length (history s e.anchor) * 37 + tail_size (length (history s e.anchor))
record_length_lem s w ls e there ok = record_size_lem s ls e ∙ ap (λ n. 83 + n * 37 + tail_size n) (order_length s w e.anchor there ls ok)

pub read_record : (at s : Store) (ls : List ℕ) (e : EnqueuedAnchor) (n : ℕ) (rest : List ℕ) → length (in_order s e.anchor ls) < 256 ^ 4
    → read_records at (suc n) (record_bytes s ls e ++ rest) ≡ read_bytes at s ls e ∷ read_records at n rest
unfolding read_records
read_record at s ls e n rest few = λ i. record { at = at; anchor = who i; ids = ids i; tail = tail i } ∷ read_records at n (after i)
  where
    who : read_id (record_bytes s ls e ++ rest) ≡ as_read (id_at s e.anchor)
    who = let (l, k) = record_anchor s ls e rest in ap read_id k ∙ read_id_lem (id_at s e.anchor) l

    at83 : drop 83 (record_bytes s ls e ++ rest) ≡ joined id_bytes (in_order s e.anchor ls) ++ (tail_bytes s ls e.anchor ++ rest)
    at83 = skip 79 4 (head_bytes s e) (be 4 (length (in_order s e.anchor ls))) _ _ (head_length s e) (be-length 4 (length (in_order s e.anchor ls))) (record_shape s ls e rest)

    points : value 0 (take 4 (drop 79 (record_bytes s ls e ++ rest))) ≡ length (in_order s e.anchor ls)
    points = points_at_lem s ls e rest few

    ids : read_ids (value 0 (take 4 (drop 79 (record_bytes s ls e ++ rest)))) (drop 83 (record_bytes s ls e ++ rest)) ≡ map as_read (in_order s e.anchor ls)
    ids = ap₂ read_ids points at83 ∙ read_ids_lem (in_order s e.anchor ls) (tail_bytes s ls e.anchor ++ rest)

    ended : drop (83 + value 0 (take 4 (drop 79 (record_bytes s ls e ++ rest))) * 37) (record_bytes s ls e ++ rest) ≡ tail_bytes s ls e.anchor ++ rest
    ended =
        ap (λ (k : ℕ). drop (83 + k * 37) (record_bytes s ls e ++ rest)) points
        ∙ (sym (drop-drop (length (in_order s e.anchor ls) * 37) 83 (record_bytes s ls e ++ rest))
        ∙ (ap (drop (length (in_order s e.anchor ls) * 37)) at83 ∙ drop_at (joined id_bytes (in_order s e.anchor ls)) _ _ (ids-length (in_order s e.anchor ls))))

    tail : take (tail_size (value 0 (take 4 (drop 79 (record_bytes s ls e ++ rest))))) (drop (83 + value 0 (take 4 (drop 79 (record_bytes s ls e ++ rest))) * 37) (record_bytes s ls e ++ rest)) ≡ tail_bytes s ls e.anchor
    tail = ap₂ (λ (k : ℕ) (l : List ℕ). take (tail_size k) l) points ended ∙ take_at (tail_bytes s ls e.anchor) rest _ (tail_length s ls e.anchor)

    after : drop (83 + value 0 (take 4 (drop 79 (record_bytes s ls e ++ rest))) * 37 + tail_size (value 0 (take 4 (drop 79 (record_bytes s ls e ++ rest))))) (record_bytes s ls e ++ rest) ≡ rest
    after =
        sym (drop-drop (tail_size (value 0 (take 4 (drop 79 (record_bytes s ls e ++ rest))))) (83 + value 0 (take 4 (drop 79 (record_bytes s ls e ++ rest))) * 37) (record_bytes s ls e ++ rest))
        ∙ (ap₂ (λ (k : ℕ) (l : List ℕ). drop (tail_size k) l) points ended ∙ drop_at (tail_bytes s ls e.anchor) rest _ (tail_length s ls e.anchor))

buffered_more : (s : Store) (ls b : List ℕ) (at n : ℕ) (e : EnqueuedAnchor) (a : ℕ) (f : Finished) (evs : List Event) → test_anchor s ls (length b - at) (length (record_bytes s ls e)) e.anchor ≡ good a
    → Buffered (written b at (record_bytes s ls e)) (at + length (record_bytes s ls e)) (suc n) f evs → Buffered b at n f (record { from = s; list = ls; enq = e } ∷ evs)
unfolding joined
buffered_more s ls b at n e a f evs h i l = (rest, buf, count)
  where
    vs : List ℕ
    vs = record_bytes s ls e

    fit : at + length vs ≤ length b
    fit = let (t, w, o, k) = test_good s ls _ _ _ a h in omega (arith, k)

    ih : (rest : List ℕ) × (f.buffer ≡ take (at + length vs) (written b at vs) ++ (joined bytes_of evs ++ rest)) × (f.anchors ≡ suc n + length evs)
    ih = i (subst (λ k. at + length vs ≤ k) (sym (written-length b at vs)) fit)

    rest : List ℕ
    rest = ih.0

    buf : f.buffer ≡ take at b ++ ((vs ++ joined bytes_of evs) ++ rest)
    buf = ih.1 ∙ (ap (λ (l : List ℕ). l ++ (joined bytes_of evs ++ rest)) (take_more b at vs fit)
        ∙ (append_assoc (take at b) vs (joined bytes_of evs ++ rest) ∙ ap (λ (l : List ℕ). take at b ++ l) (sym (append_assoc vs (joined bytes_of evs) rest))))

    count : f.anchors ≡ n + suc (length evs)
    count = ih.2 ∙ shift n (length evs)
      where
        shift : (n m : ℕ) → suc n + m ≡ n + suc m
        shift n m = omega arith

pub commit_buffer : (s : Store) (ls b : List ℕ) (at n : ℕ) (es : List EnqueuedAnchor) → Buffered b at n (commit_all s ls b at n es) (passed s ls (length b - at) es)
unfolding joined
commit_buffer = every-commit (λ s ls b at n es f evs. Buffered b at n f evs) (λ s ls b at n l. nothing b at n) (λ s ls b at n e es r h l. nothing b at n) (λ s ls b at n e es a f evs. buffered_more s ls b at n e a f evs)
  where
    nothing : (b : List ℕ) (at n : ℕ) → (rest : List ℕ) × (b ≡ take at b ++ rest) × (n ≡ n + 0)
    nothing b at n = (drop at b, sym (take-append-drop at b), sym (add-zero n))

-- ---- read back

-- records of few enough points, as their bytes say them
pub read_bytes_lem : (at : Store) (evs : List Event) (rest : List ℕ) → ((e : Event) → Memᴰ e evs → length (in_order e.from e.enq.anchor e.list) < 256 ^ 4)
    → read_records at (length evs) (joined bytes_of evs ++ rest) ≡ map (λ (e : Event). read_bytes at e.from e.list e.enq) evs
unfolding joined read_records
read_bytes_lem at [] rest f = refl
read_bytes_lem at (e ∷ evs) rest f =
    ap (read_records at (suc (length evs))) (append_assoc (bytes_of e) (joined bytes_of evs) rest)
    ∙ (read_record at e.from e.list e.enq (length evs) (joined bytes_of evs ++ rest) (f e (Memᴰ.head refl)) ∙ ap (λ (l : List History). read_bytes at e.from e.list e.enq ∷ l) (read_bytes_lem at evs rest (λ x m. f x (Memᴰ.tail m))))

pub read_all : (at : Store) (evs : List Event) (rest : List ℕ) → ((e : Event) → Memᴰ e evs → Readable e)
    → read_records at (length evs) (joined bytes_of evs ++ rest) ≡ map (λ (e : Event). read_as at e.from e.list e.enq) evs
read_all at evs rest f =
    read_bytes_lem at evs rest (λ e m. (f e m).few)
    ∙ map_same _ _ evs (λ e m i. record { at = at; anchor = as_read_lem (id_at e.from e.enq.anchor) (f e m).anchor i; ids = as_reads (in_order e.from e.enq.anchor e.list) (f e m).points i; tail = tail_bytes e.from e.list e.enq.anchor })
