-- Skipped triggers: the proof of the statements in Skipped.antt (02: N9).
use Rattle.std.specs.Prelude.{ℕ, suc, ◌+◌, ◌*◌, ◌^◌, ◌<◌, ◌≡◌, true, length, take, drop}
use Rattle.std.proofs.Math.Path.{refl}
use Rattle.std.proofs.Common.{sym, ◌∙◌, subst, ap, ap₂, length-append, take_at, drop_at}
use mathlib.Core.List.{List, [], ◌∷◌, ◌++◌, map, map-append, append_assoc, head-eq_of_cons-eq, tail-eq_of_cons-eq, Memᴰ}
use Rattle.laws.specs.Lists.{joined, joined-append, append-same, row_same}
use Rattle.spec.specs.Ids.{Id}
use Rattle.spec.specs.Store.{Store, id_at}
use Rattle.spec.specs.Rules.{counts_as_started}
use Rattle.spec.specs.Chain.{good, EnqueuedAnchor, anchors_of}
use Rattle.spec.specs.History.{linked_in, rounds_of, counts_in, linked_counts, lists_ok, round_out, drawn, in_order, after_lists, tail_bytes, record_bytes, dequeued}
use Rattle.spec.specs.Calls.{anchors, Outcome, commit, call}
use Rattle.spec.specs.HeightEquations.{Sized}
use Rattle.spec.specs.WellFormed.{Wf, counts_as_started_elim}
use Rattle.spec.proofs.OrderInRound.{each-length, lists_head}
use Rattle.spec.proofs.Preservation.{is_reset_call, rules_kept}
use Rattle.spec.specs.Demand.{tail_size}
use Rattle.spec.specs.Outlook.{supposed, supposed-append, Listed}
use Rattle.spec.specs.Records.{points_at_lem, Event, bytes_of}
use Rattle.spec.proofs.Records.{record_size_lem}
use Rattle.spec.proofs.Handed.{events, events-length, points_out, Handed, handed}
use Rattle.skipped.specs.Skipped.{Passes, pieces, lists_read, lists_by, chain_of, Lent, bytes_read, record_size, records_in, Skipped, SkippedInRow}
use Rattle.skipped.proofs.Chain.{chain_splits}

-- ---- records in a buffer

record_front : (s : Store) (ls : List ℕ) (e : EnqueuedAnchor) (n : ℕ) (rest : List ℕ) → length (in_order s e.anchor ls) < 256 ^ 4 → records_in (suc n) (record_bytes s ls e ++ rest) ≡ record_bytes s ls e ∷ records_in n rest
unfolding records_in record_size
record_front s ls e n rest few = ap₂ ◌∷◌ (ap (λ k. take k bs) size ∙ take_at (record_bytes s ls e) rest _ refl) (ap (records_in n) (ap (λ k. drop k bs) size ∙ drop_at (record_bytes s ls e) rest _ refl))
  where
    bs : List ℕ
    bs = record_bytes s ls e ++ rest

    size : record_size (record_bytes s ls e ++ rest) ≡ length (record_bytes s ls e)
    size = ap (λ (k : ℕ). 83 + k * 37 + tail_size k) (points_at_lem s ls e rest few) ∙ sym (record_size_lem s ls e)

rows_read : (evs : List Event) (rest : List ℕ) → ((e : Event) → Memᴰ e evs → points_out e < 256 ^ 4) → records_in (length evs) (joined bytes_of evs ++ rest) ≡ map bytes_of evs
unfolding records_in joined
rows_read [] rest few = refl
rows_read (e ∷ evs) rest few =
    ap (records_in (suc (length evs))) (append_assoc (bytes_of e) (joined bytes_of evs) rest)
    ∙ (record_front e.from e.list e.enq (length evs) _ (few e (Memᴰ.head refl)) ∙ ap (λ (l : List (List ℕ)). bytes_of e ∷ l) (rows_read evs rest (λ x m. few x (Memᴰ.tail m))))

-- the records of a chain
abbrev rows : Store → List ℕ → List EnqueuedAnchor → List (List ℕ)
rows s l es = map bytes_of (events s l es)

-- those that a commit that isn't refused wrote
rows_written : (s : Store) (i : Id) (l : List ℕ) (n : ℕ) (o : Outcome) (h : Handed s i l n o) → records_in n o.buffer ≡ rows s l h.chain
rows_written s i l n o h = ap₂ records_in (sym (events-length s l h.chain ∙ h.count)) h.writes ∙ rows_read (events s l h.chain) h.rest h.passes.few

-- ---- the place lists

pieces-length : (ns l : List ℕ) → length (pieces ns l) ≡ length ns
unfolding pieces
pieces-length [] l = refl
pieces-length (n ∷ ns) l = ap suc (pieces-length ns (drop n l))

-- right lists are as long as their counts say
pieces_whole : (ns l : List ℕ) → lists_ok ns l ≡ true → map length (pieces ns l) ≡ ns
unfolding pieces
pieces_whole [] l h = refl
pieces_whole (n ∷ ns) l h = let (x, y) = lists_head n ns l h in ap₂ ◌∷◌ (each-length n (take n l) x) (pieces_whole ns (drop n l) y)

-- the lists that these anchors leave
unfoldable lists_after : Store → List ℕ → List EnqueuedAnchor → List ℕ
lists_after s l [] = l
lists_after s l (e ∷ es) = lists_after (dequeued s e) (after_lists s e.anchor l) es

read_length : (s : Store) (l m : List ℕ) (es : List EnqueuedAnchor) → length (lists_read s l es) ≡ length (lists_read s m es)
unfolding lists_read
read_length s l m [] = refl
read_length s l m (e ∷ es) =
    let ns = linked_counts s e.anchor in
    length-append (pieces ns l) _ ∙ (ap₂ ◌+◌ (pieces-length ns l ∙ sym (pieces-length ns m)) (read_length (dequeued s e) (after_lists s e.anchor l) (after_lists s e.anchor m) es) ∙ sym (length-append (pieces ns m) _))

-- right lists have the same lengths, anchor by anchor, round by round
read_whole : (s : Store) (l m : List ℕ) (es : List EnqueuedAnchor) → Listed s l es → Listed s m es → map length (lists_read s l es) ≡ map length (lists_read s m es)
unfolding lists_read
read_whole s l m [] h k = refl
read_whole s l m (e ∷ es) (h, hs) (k, ks) =
    let ns = linked_counts s e.anchor in
    map-append length (pieces ns l) _
    ∙ (ap₂ ◌++◌ (pieces_whole ns l h ∙ sym (pieces_whole ns m k)) (read_whole (dequeued s e) (after_lists s e.anchor l) (after_lists s e.anchor m) es hs ks) ∙ sym (map-append length (pieces ns m) _))

-- a history comes out in the order of the pieces that are read
drawn-same : (s : Store) (a : ℕ) (rs l m : List ℕ) → pieces (counts_in s a rs) l ≡ pieces (counts_in s a rs) m → drawn s a rs l ≡ drawn s a rs m
unfolding drawn pieces
drawn-same s a [] l m h = refl
drawn-same s a (r ∷ rs) l m h =
    let n = length (linked_in s a r) in
    ap₂ (λ (x y : List ℕ). x ++ round_out s (linked_in s a r) y) (drawn-same s a rs (drop n l) (drop n m) (tail-eq_of_cons-eq h)) (head-eq_of_cons-eq h)

record_same : (s : Store) (e : EnqueuedAnchor) (l m : List ℕ) → pieces (linked_counts s e.anchor) l ≡ pieces (linked_counts s e.anchor) m → record_bytes s l e ≡ record_bytes s m e
unfolding record_bytes in_order tail_bytes
record_same s e l m h = rw (drawn-same s e.anchor (rounds_of s e.anchor) l m h, record_bytes, in_order, tail_bytes) refl

rows_same : (s : Store) (l m : List ℕ) (es : List EnqueuedAnchor) → lists_read s l es ≡ lists_read s m es → rows s l es ≡ rows s m es
unfolding events lists_read
rows_same s l m [] h = refl
rows_same s l m (e ∷ es) h =
    let ns = linked_counts s e.anchor in
    let (x, y) = append-same (pieces ns l) (pieces ns m) _ _ (pieces-length ns l ∙ sym (pieces-length ns m)) h in
    ap₂ ◌∷◌ (record_same s e l m x) (rows_same (dequeued s e) (after_lists s e.anchor l) (after_lists s e.anchor m) es y)

-- ---- anchors after others

rows_append : (s : Store) (l : List ℕ) (es fs : List EnqueuedAnchor) → rows s l (es ++ fs) ≡ rows s l es ++ rows (supposed s es) (lists_after s l es) fs
unfolding events supposed lists_after
rows_append s l [] fs = refl
rows_append s l (e ∷ es) fs = ap (λ (z : List (List ℕ)). record_bytes s l e ∷ z) (rows_append (dequeued s e) (after_lists s e.anchor l) es fs)

read_append : (s : Store) (l : List ℕ) (es fs : List EnqueuedAnchor) → lists_read s l (es ++ fs) ≡ lists_read s l es ++ lists_read (supposed s es) (lists_after s l es) fs
unfolding lists_read supposed lists_after
read_append s l [] fs = refl
read_append s l (e ∷ es) fs = ap (λ (z : List (List ℕ)). pieces (linked_counts s e.anchor) l ++ z) (read_append (dequeued s e) (after_lists s e.anchor l) es fs) ∙ sym (append_assoc (pieces (linked_counts s e.anchor) l) _ _)

by_append : (f : Id → ℕ → List ℕ) (s : Store) (es fs : List EnqueuedAnchor) → lists_by f s (es ++ fs) ≡ lists_by f s es ++ lists_by f (supposed s es) fs
unfolding lists_by supposed
by_append f s [] fs = refl
by_append f s (e ∷ es) fs =
    let here = map (f (id_at s e.anchor)) (rounds_of s e.anchor) in
    ap (λ (z : List (List ℕ)). here ++ z) (by_append f (dequeued s e) es fs) ∙ sym (append_assoc here (lists_by f (dequeued s e) es) (lists_by f (supposed (dequeued s e) es) fs))

listed_append : (s : Store) (l : List ℕ) (es fs : List EnqueuedAnchor) → Listed s l (es ++ fs) → Listed s l es × Listed (supposed s es) (lists_after s l es) fs
unfolding supposed lists_after
listed_append s l [] fs h = (tt, h)
listed_append s l (e ∷ es) fs (h, hs) = let (x, y) = listed_append (dequeued s e) (after_lists s e.anchor l) es fs hs in ((h, x), y)

-- ---- the theorems

chain_is : (s : Store) (i : Id) (es : List EnqueuedAnchor) → anchors_of s i ≡ good es → chain_of s i ≡ es
chain_is s i es h = rw (h, chain_of) refl

-- three commits that aren't refused
module _ (s : Store) (z : Sized s) (c : counts_as_started s ≡ true) (S T : Id) (ls lt l bs bt b : List ℕ) (m n k : ℕ) (a1 : (call s (commit S ls bs)).answer ≡ anchors m)
    (a2 : (call (call s (commit S ls bs)).store (commit T lt bt)).answer ≡ anchors n) (a3 : (call s (commit T l b)).answer ≡ anchors k) (p : Passes s S T) where
  abbrev left : Store
  left = (call s (commit S ls bs)).store

  w : Wf s
  w = counts_as_started_elim s z c

  one : Handed s S ls m (call s (commit S ls bs))
  one = handed s w S ls bs m a1

  kept : Wf (call s (commit S ls bs)).store
  unfolding is_reset_call
  kept = let (z1, c1) = rules_kept s z c (commit S ls bs) refl in counts_as_started_elim left z1 c1

  two : Handed (call s (commit S ls bs)).store T lt n (call (call s (commit S ls bs)).store (commit T lt bt))
  two = handed left kept T lt bt n a2

  alone : Handed s T l k (call s (commit T l b))
  alone = handed s w T l b k a3

  -- the chain of T alone is that of S, then that of T after S
  splits : one.chain ++ two.chain ≡ alone.chain
  splits = chain_splits s w S T one.chain one.yields p two.chain alone.chain (subst (λ (u : Store). anchors_of u T ≡ good two.chain) one.leaves two.yields) alone.yields

  pub chains : (es fs : List EnqueuedAnchor) × (anchors_of s S ≡ good es) × (anchors_of left T ≡ good fs) × (anchors_of s T ≡ good (es ++ fs))
  chains = (one.chain, two.chain, one.yields, two.yields, alone.yields ∙ ap good (sym splits))

  counts : m + n ≡ k
  counts = ap₂ ◌+◌ (sym one.count) (sym two.count) ∙ (sym (length-append one.chain two.chain) ∙ (ap length splits ∙ alone.count))

  stores : (call left (commit T lt bt)).store ≡ (call s (commit T l b)).store
  stores = two.leaves ∙ (ap (λ (u : Store). supposed u two.chain) one.leaves ∙ (sym (supposed-append s one.chain two.chain) ∙ (ap (supposed s) splits ∙ sym alone.leaves)))

  -- the lists that T alone reads, for S's anchors and for the others
  both_read : lists_read s l alone.chain ≡ lists_read s l one.chain ++ lists_read (supposed s one.chain) (lists_after s l one.chain) two.chain
  both_read = ap (lists_read s l) (sym splits) ∙ read_append s l one.chain two.chain

  -- from the lists that are read, anchor by anchor, round by round
  by_lists : lists_read s ls one.chain ++ lists_read (supposed s one.chain) lt two.chain ≡ lists_read s l alone.chain
      → (records_in m (call s (commit S ls bs)).buffer ++ records_in n (call left (commit T lt bt)).buffer ≡ records_in k (call s (commit T l b)).buffer) × (m + n ≡ k) × ((call left (commit T lt bt)).store ≡ (call s (commit T l b)).store)
  by_lists h =
      let (x, y) = append-same (lists_read s ls one.chain) (lists_read s l one.chain) _ _ (read_length s ls l one.chain) (h ∙ both_read) in
      let first : records_in m (call s (commit S ls bs)).buffer ≡ rows s l one.chain = rows_written s S ls m _ one ∙ rows_same s ls l one.chain x in
      let second : records_in n (call left (commit T lt bt)).buffer ≡ rows (supposed s one.chain) (lists_after s l one.chain) two.chain =
      rows_written left T lt n _ two ∙ (ap (λ (u : Store). rows u lt two.chain) one.leaves ∙ rows_same (supposed s one.chain) lt (lists_after s l one.chain) two.chain y) in
      (ap₂ ◌++◌ first second ∙ (sym (rows_append s l one.chain two.chain) ∙ (ap (rows s l) splits ∙ sym (rows_written s T l k _ alone))), counts, stores)

  chain-one : chain_of s S ≡ one.chain
  chain-one = chain_is s S one.chain one.yields

  chain-two : chain_of left T ≡ two.chain
  chain-two = chain_is left T two.chain two.yields

  chain-alone : chain_of s T ≡ alone.chain
  chain-alone = chain_is s T alone.chain alone.yields

  -- what T reads after S
  read_two : lists_read left lt (chain_of left T) ≡ lists_read (supposed s one.chain) lt two.chain
  read_two = ap (lists_read left lt) chain-two ∙ ap (λ (u : Store). lists_read u lt two.chain) one.leaves

  -- the lists are f's
  by_each : (f : Id → ℕ → List ℕ) → Lent f s S ls → Lent f left T lt → Lent f s T l → lists_read s ls one.chain ++ lists_read (supposed s one.chain) lt two.chain ≡ lists_read s l alone.chain
  by_each f r1 r2 r3 =
      ap₂ ◌++◌ (ap (lists_read s ls) (sym chain-one) ∙ (r1 ∙ ap (lists_by f s) chain-one)) (sym read_two ∙ (r2 ∙ (ap (lists_by f left) chain-two ∙ ap (λ (u : Store). lists_by f u two.chain) one.leaves)))
      ∙ (sym (by_append f s one.chain two.chain) ∙ (ap (lists_by f s) (splits ∙ sym chain-alone) ∙ (sym r3 ∙ ap (lists_read s l) chain-alone)))

  -- they are the same in a row
  in_row : bytes_read s S ls ++ bytes_read left T lt ≡ bytes_read s T l → lists_read s ls one.chain ++ lists_read (supposed s one.chain) lt two.chain ≡ lists_read s l alone.chain
  in_row r = row_same (xs ++ ys) (lists_read s l alone.chain) lengths (joined-append _ xs ys ∙ (ap₂ ◌++◌ (ap flat (ap (lists_read s ls) (sym chain-one))) (ap flat (sym read_two)) ∙ (r ∙ ap flat (ap (lists_read s l) chain-alone))))
    where
      flat : List (List ℕ) → List ℕ
      flat ps = joined (λ (q : List ℕ). q) ps

      xs : List (List ℕ)
      xs = lists_read s ls one.chain

      ys : List (List ℕ)
      ys = lists_read (supposed s one.chain) lt two.chain

      lengths : map length (lists_read s ls one.chain ++ lists_read (supposed s one.chain) lt two.chain) ≡ map length (lists_read s l alone.chain)
      lengths =
          let (x, y) = listed_append s l one.chain two.chain (subst (Listed s l) (sym splits) alone.passes.listed) in
          map-append length xs ys
          ∙ (ap₂ ◌++◌ (read_whole s ls l one.chain one.passes.listed x) (read_whole (supposed s one.chain) lt _ two.chain (subst (λ (u : Store). Listed u lt two.chain) one.leaves two.passes.listed) y)
          ∙ (sym (map-append length (lists_read s l one.chain) _) ∙ ap (map length) (sym both_read)))

pub skipped : Skipped
skipped f s z c S T ls lt l bs bt b m n k a1 a2 a3 p (r1, r2, r3) = by_lists s z c S T ls lt l bs bt b m n k a1 a2 a3 p (by_each s z c S T ls lt l bs bt b m n k a1 a2 a3 p f r1 r2 r3)

pub skipped_in_row : SkippedInRow
skipped_in_row s z c S T ls lt l bs bt b m n k a1 a2 a3 p r = by_lists s z c S T ls lt l bs bt b m n k a1 a2 a3 p (in_row s z c S T ls lt l bs bt b m n k a1 a2 a3 p r)
