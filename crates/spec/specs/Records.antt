-- The records that a commit writes, and the histories read back from its buffer.
use Prim.Native.Nat.{ℕ, suc, ◌+◌, ◌-◌, ◌*◌, ◌^◌, ◌≤◌, ◌<◌}
use Rattle.std.specs.Prelude.{◌≡◌, cond, length, take, drop}
use Rattle.std.proofs.Math.Path.{refl}
use Rattle.std.proofs.Common.{sym, ◌∙◌, subst, ap, ap₂, length-append, take_at, drop_at, drop-drop, length-take-le, arith}
use Rattle.std.proofs.Math.Option.{none, some}
use mathlib.Core.List.{List, [], ◌∷◌, ◌++◌, map, append_assoc, Memᴰ}
use Rattle.std.proofs.lemmas.List.{length-map}
use Rattle.std.proofs.Math.Seq.{take-append-add}
use Rattle.laws.specs.Lists.{joined}
use Rattle.laws.specs.Bytes.{be, be-length, value, value-be-fits, written, written-length, written_is}
use Rattle.spec.specs.Ids.{Id, id_bytes}
use Rattle.spec.specs.Store.{Store, id_at}
use Rattle.spec.specs.Chain.{Refusal, Out, bad, good, EnqueuedAnchor}
use Rattle.spec.specs.History.{is_executable, prev_anchor, rounds_of, drawn, in_order, after_lists, behind, word_for, link_bytes, tail_bytes, record_bytes, test_anchor, dequeued, Finished, commit_all}
use Rattle.spec.specs.Demand.{read_id, read_ids, History}

-- ---- ids

-- the id fits its 37 bytes
abbrev pub Fits : Id → Type 0
Fits i = (i.round < 256 ^ 4) × (i.author < 256 ^ 1) × (i.digest < 256 ^ 32)

id-shape : (i : Id) (rest : List ℕ) → id_bytes i ++ rest ≡ be 4 i.round ++ (be 1 i.author ++ (be 32 i.digest ++ rest))
unfolding id_bytes
id-shape i rest =
    append_assoc (be 4 i.round) (be 1 i.author ++ be 32 i.digest) rest ∙ ap (λ (l : List ℕ). be 4 i.round ++ l) (append_assoc (be 1 i.author) (be 32 i.digest) rest)

-- what stands n bytes on, in two steps
pub skip : (m n : ℕ) (p q r bs : List ℕ) → length p ≡ m → length q ≡ n → bs ≡ p ++ (q ++ r) → drop (m + n) bs ≡ r
skip m n p q r bs a b e = sym (drop-drop n m bs) ∙ (ap (drop n) (ap (drop m) e ∙ drop_at p (q ++ r) m a) ∙ drop_at q r n b)

-- an id as its bytes say it
abbrev pub as_read : Id → Id
as_read i = record { round = value 0 (be 4 i.round); author = value 0 (be 1 i.author); digest = value 0 (be 32 i.digest) }

pub read_id_lem : (i : Id) (rest : List ℕ) → read_id (id_bytes i ++ rest) ≡ as_read i
unfolding read_id
read_id_lem i rest = λ k. record { round = r k; author = a k; digest = d k }
  where
    r : value 0 (take 4 (id_bytes i ++ rest)) ≡ value 0 (be 4 i.round)
    r = ap (λ (l : List ℕ). value 0 (take 4 l)) (id-shape i rest) ∙ ap (value 0) (take_at (be 4 i.round) _ 4 (be-length 4 i.round))

    four : drop 4 (id_bytes i ++ rest) ≡ be 1 i.author ++ (be 32 i.digest ++ rest)
    four = ap (drop 4) (id-shape i rest) ∙ drop_at (be 4 i.round) _ 4 (be-length 4 i.round)

    five : drop 5 (id_bytes i ++ rest) ≡ be 32 i.digest ++ rest
    five = skip 4 1 (be 4 i.round) (be 1 i.author) _ _ (be-length 4 i.round) (be-length 1 i.author) (id-shape i rest)

    a : value 0 (take 1 (drop 4 (id_bytes i ++ rest))) ≡ value 0 (be 1 i.author)
    a = ap (λ (l : List ℕ). value 0 (take 1 l)) four ∙ ap (value 0) (take_at (be 1 i.author) _ 1 (be-length 1 i.author))

    d : value 0 (take 32 (drop 5 (id_bytes i ++ rest))) ≡ value 0 (be 32 i.digest)
    d = ap (λ (l : List ℕ). value 0 (take 32 l)) five ∙ ap (value 0) (take_at (be 32 i.digest) _ 32 (be-length 32 i.digest))

-- one that fits comes back
pub as_read_lem : (i : Id) → Fits i → as_read i ≡ i
as_read_lem i f = λ k. record { round = value-be-fits 4 i.round f.0 k; author = value-be-fits 1 i.author f.1 k; digest = value-be-fits 32 i.digest f.2 k }

pub id-length : (i : Id) → length (id_bytes i) ≡ 37
unfolding id_bytes
id-length i =
    length-append (be 4 i.round) _
    ∙ ap₂ ◌+◌ (be-length 4 i.round) (length-append (be 1 i.author) _ ∙ ap₂ ◌+◌ (be-length 1 i.author) (be-length 32 i.digest))

pub ids-length : (xs : List Id) → length (joined id_bytes xs) ≡ length xs * 37
unfolding joined
ids-length [] = refl
ids-length (x ∷ xs) = let n = length xs in length-append (id_bytes x) (joined id_bytes xs) ∙ (ap₂ ◌+◌ (id-length x) (ids-length xs) ∙ more (length xs))
  where
    more : (n : ℕ) → 37 + n * 37 ≡ suc n * 37
    more n = omega arith

pub read_ids_lem : (xs : List Id) (rest : List ℕ) → read_ids (length xs) (joined id_bytes xs ++ rest) ≡ map as_read xs
unfolding joined read_ids
read_ids_lem [] rest = refl
read_ids_lem (x ∷ xs) rest =
    rw (append_assoc (id_bytes x) (joined id_bytes xs) rest)
    (ap₂ ◌∷◌ (read_id_lem x (joined id_bytes xs ++ rest)) (ap (read_ids (length xs)) (drop_at (id_bytes x) (joined id_bytes xs ++ rest) 37 (id-length x)) ∙ read_ids_lem xs rest))

-- ids that fit come back
pub as_reads : (xs : List Id) → ((x : Id) → Memᴰ x xs → Fits x) → map as_read xs ≡ xs
as_reads [] f = refl
as_reads (x ∷ xs) f = ap₂ ◌∷◌ (as_read_lem x (f x (Memᴰ.head refl))) (as_reads xs (λ y m. f y (Memᴰ.tail m)))

-- ---- records

-- before the number of points
pub head_bytes : Store → EnqueuedAnchor → List ℕ
head_bytes s e = id_bytes (id_at s e.anchor) ++ (id_bytes (id_at s e.proof) ++ (be 1 (cond (is_executable s e.anchor) 1 0) ++ be 4 (prev_anchor s e)))

pub head_length : (s : Store) (e : EnqueuedAnchor) → length (head_bytes s e) ≡ 79
unfolding head_bytes
head_length s e =
    length-append (id_bytes (id_at s e.anchor)) _
    ∙ ap₂ ◌+◌ (id-length _) (length-append (id_bytes (id_at s e.proof)) _ ∙ ap₂ ◌+◌ (id-length _) (length-append (be 1 (cond (is_executable s e.anchor) 1 0)) _ ∙ ap₂ ◌+◌ (be-length 1 _) (be-length 4 _)))

five_parts : (a b c d e : List ℕ) → a ++ (b ++ (c ++ (d ++ e))) ≡ (a ++ (b ++ (c ++ d))) ++ e
five_parts a b c d e =
    ap (λ (l : List ℕ). a ++ (b ++ l)) (sym (append_assoc c d e)) ∙ (ap (λ (l : List ℕ). a ++ l) (sym (append_assoc b (c ++ d) e)) ∙ sym (append_assoc a (b ++ (c ++ d)) e))

pub record_shape : (s : Store) (ls : List ℕ) (e : EnqueuedAnchor) (rest : List ℕ) → record_bytes s ls e ++ rest ≡ head_bytes s e ++ (be 4 (length (in_order s e.anchor ls)) ++ (joined id_bytes (in_order s e.anchor ls) ++ (tail_bytes s ls e.anchor ++ rest)))
unfolding record_bytes head_bytes
record_shape s ls e rest =
    ap (λ (l : List ℕ). l ++ rest) (five_parts (id_bytes (id_at s e.anchor)) (id_bytes (id_at s e.proof)) (be 1 (cond (is_executable s e.anchor) 1 0)) (be 4 (prev_anchor s e)) (number ++ (points ++ tail_bytes s ls e.anchor)))
    ∙ (append_assoc (head_bytes s e) (number ++ (points ++ tail_bytes s ls e.anchor)) rest
    ∙ ap (λ (l : List ℕ). head_bytes s e ++ l) (append_assoc number (points ++ tail_bytes s ls e.anchor) rest ∙ ap (λ (l : List ℕ). number ++ l) (append_assoc points (tail_bytes s ls e.anchor) rest)))
  where
    number : List ℕ
    number = be 4 (length (in_order s e.anchor ls))

    points : List ℕ
    points = joined id_bytes (in_order s e.anchor ls)

-- the id, then the word
pub link-shape : (s : Store) (a q : ℕ) (rest : List ℕ) → link_bytes s a q ++ rest ≡ id_bytes (id_at s (behind s a q)) ++ (word_for s a q ++ rest)
unfolding link_bytes
link-shape s a q rest = append_assoc (id_bytes (id_at s (behind s a q))) (word_for s a q) rest

-- as many as ids
pub drawn-ids : (s : Store) (ls : List ℕ) (a : ℕ) → length (in_order s a ls) ≡ length (drawn s a (rounds_of s a) ls)
unfolding in_order
drawn-ids s ls a = length-map (drawn s a (rounds_of s a) ls) (id_at s)

-- the record begins with the anchor's id
pub record_anchor : (s : Store) (ls : List ℕ) (e : EnqueuedAnchor) (rest : List ℕ) → (l : List ℕ) × (record_bytes s ls e ++ rest ≡ id_bytes (id_at s e.anchor) ++ l)
unfolding record_bytes
record_anchor s ls e rest = (_, append_assoc (id_bytes (id_at s e.anchor)) _ rest)

-- the number of points stands at byte 79
pub number_at_lem : (s : Store) (ls : List ℕ) (e : EnqueuedAnchor) (rest : List ℕ) → drop 79 (record_bytes s ls e ++ rest) ≡ be 4 (length (in_order s e.anchor ls)) ++ (joined id_bytes (in_order s e.anchor ls) ++ (tail_bytes s ls e.anchor ++ rest))
number_at_lem s ls e rest = ap (drop 79) (record_shape s ls e rest) ∙ drop_at (head_bytes s e) _ 79 (head_length s e)

pub points_at_lem : (s : Store) (ls : List ℕ) (e : EnqueuedAnchor) (rest : List ℕ) → length (in_order s e.anchor ls) < 256 ^ 4 → value 0 (take 4 (drop 79 (record_bytes s ls e ++ rest))) ≡ length (in_order s e.anchor ls)
points_at_lem s ls e rest few =
    ap (λ (l : List ℕ). value 0 (take 4 l)) (number_at_lem s ls e rest)
    ∙ (ap (value 0) (take_at (be 4 (length (in_order s e.anchor ls))) _ 4 (be-length 4 (length (in_order s e.anchor ls)))) ∙ value-be-fits 4 _ few)

-- what is read back: the anchor, the history and what follows it
abbrev pub read_as : Store → Store → List ℕ → EnqueuedAnchor → History
read_as at s ls e = record { at = at; anchor = id_at s e.anchor; ids = in_order s e.anchor ls; tail = tail_bytes s ls e.anchor }

-- as the bytes say it
abbrev pub read_bytes : Store → Store → List ℕ → EnqueuedAnchor → History
read_bytes at s ls e = record { at = at; anchor = as_read (id_at s e.anchor); ids = map as_read (in_order s e.anchor ls); tail = tail_bytes s ls e.anchor }

-- ---- the anchors that a commit finishes

-- an anchor that was finished, with the store that it was committed from and the lists from its own on
pub record Event : Type 0 where
  pub from : Store
  pub list : List ℕ
  pub enq : EnqueuedAnchor

-- the anchors of a chain that pass their tests, with this many bytes of the buffer left
unfoldable pub passed : Store → List ℕ → ℕ → List EnqueuedAnchor → List Event
passed s ls left [] = []
passed s ls left (e ∷ es) = elim (test_anchor s ls left (length (record_bytes s ls e)) e.anchor) [
  | bad r ↦ []
  | good a ↦ record { from = s; list = ls; enq = e } ∷ passed (dequeued s e) (after_lists s e.anchor ls) (left - length (record_bytes s ls e)) es
]

abbrev pub bytes_of : Event → List ℕ
bytes_of e = record_bytes e.from e.list e.enq

pub take_more : (b : List ℕ) (at : ℕ) (vs : List ℕ) → at + length vs ≤ length b → take (at + length vs) (written b at vs) ≡ take at b ++ vs
take_more b at vs l =
    ap (take (at + length vs)) (written_is b at vs l)
    ∙ (ap (λ (n : ℕ). take (n + length vs) (take at b ++ (vs ++ drop (at + length vs) b))) (sym (length-take-le at b (omega arith)))
    ∙ (take-append-add (take at b) (vs ++ drop (at + length vs) b) (length vs) ∙ ap (λ (t : List ℕ). take at b ++ t) (take_at vs (drop (at + length vs) b) (length vs) refl)))

pub room-left : (b at n size : ℕ) → n ≡ b → b - at - size ≡ n - (at + size)
room-left b at n size e = omega arith

-- what a commit ends with, and what passes, by the tests of its first anchor
abbrev finished_by : Store → List ℕ → List ℕ → ℕ → ℕ → EnqueuedAnchor → List EnqueuedAnchor → Out ℕ → Finished
finished_by s ls b at n e es o = elim o [
  | bad r ↦ record { store = s; buffer = b; anchors = n; stopped = some r }
  | good a ↦ commit_all (dequeued s e) (after_lists s e.anchor ls) (written b at (record_bytes s ls e)) (at + length (record_bytes s ls e)) (suc n) es
]

abbrev passed_by : Store → List ℕ → ℕ → EnqueuedAnchor → List EnqueuedAnchor → Out ℕ → List Event
passed_by s ls left e es o = elim o [ bad r ↦ [] | good a ↦ record { from = s; list = ls; enq = e } ∷ passed (dequeued s e) (after_lists s e.anchor ls) (left - length (record_bytes s ls e)) es ]

-- what holds of a commit of no anchors, of one that its first anchor's tests stop, and of one more anchor before a commit that it holds of,
-- holds of every commit
module _ (P : Store → List ℕ → List ℕ → ℕ → ℕ → List EnqueuedAnchor → Finished → List Event → Type 0)
    (none_left : (s : Store) (ls b : List ℕ) (at n : ℕ) → P s ls b at n [] (record { store = s; buffer = b; anchors = n; stopped = none }) [])
    (stops : (s : Store) (ls b : List ℕ) (at n : ℕ) (e : EnqueuedAnchor) (es : List EnqueuedAnchor) (r : Refusal) → test_anchor s ls (length b - at) (length (record_bytes s ls e)) e.anchor ≡ bad r
    → P s ls b at n (e ∷ es) (record { store = s; buffer = b; anchors = n; stopped = some r }) [])
    (one_more : (s : Store) (ls b : List ℕ) (at n : ℕ) (e : EnqueuedAnchor) (es : List EnqueuedAnchor) (a : ℕ) (f : Finished) (evs : List Event) → test_anchor s ls (length b - at) (length (record_bytes s ls e)) e.anchor ≡ good a
    → P (dequeued s e) (after_lists s e.anchor ls) (written b at (record_bytes s ls e)) (at + length (record_bytes s ls e)) (suc n) es f evs → P s ls b at n (e ∷ es) f (record { from = s; list = ls; enq = e } ∷ evs)) where
  pub every-commit : (s : Store) (ls b : List ℕ) (at n : ℕ) (es : List EnqueuedAnchor) → P s ls b at n es (commit_all s ls b at n es) (passed s ls (length b - at) es)
  unfolding commit_all passed
  every-commit s ls b at n [] = none_left s ls b at n
  every-commit s ls b at n (e ∷ es) = go (test_anchor s ls (length b - at) (length (record_bytes s ls e)) e.anchor) refl (λ b at n. every-commit (dequeued s e) (after_lists s e.anchor ls) b at n es)
    where
      vs : List ℕ
      vs = record_bytes s ls e

      left : List EnqueuedAnchor → ℕ → List Event
      left = λ es k. passed (dequeued s e) (after_lists s e.anchor ls) k es

      go : (o : Out ℕ) → test_anchor s ls (length b - at) (length vs) e.anchor ≡ o
          → ((b : List ℕ) (at n : ℕ) → P (dequeued s e) (after_lists s e.anchor ls) b at n es (commit_all (dequeued s e) (after_lists s e.anchor ls) b at n es) (left es (length b - at)))
          → P s ls b at n (e ∷ es) (finished_by s ls b at n e es o) (passed_by s ls (length b - at) e es o)
      go (bad r) h i = stops s ls b at n e es r h
      go (good a) h i = one_more s ls b at n e es a _ _ h (subst (λ k. P (dequeued s e) (after_lists s e.anchor ls) (written b at vs) (at + length vs) (suc n) es (commit_all (dequeued s e) (after_lists s e.anchor ls) (written b at vs) (at + length vs) (suc n) es) (left es k))
          (sym (room-left (length b) at (length (written b at vs)) (length vs) (written-length b at vs))) (i (written b at vs) (at + length vs) (suc n)))

-- the buffer after a commit: what stood before `at`, the records of the finished anchors, and a rest; and how many were finished
abbrev pub Buffered : List ℕ → ℕ → ℕ → Finished → List Event → Type 0
Buffered b at n f evs = at ≤ length b → (rest : List ℕ) × (f.buffer ≡ take at b ++ (joined bytes_of evs ++ rest)) × (f.anchors ≡ n + length evs)

-- what reading a record back asks of a finished anchor
pub record Readable (e : Event) : Type 0 where
  pub anchor : Fits (id_at e.from e.enq.anchor)
  pub points : (x : Id) → Memᴰ x (in_order e.from e.enq.anchor e.list) → Fits x
  pub few : length (in_order e.from e.enq.anchor e.list) < 256 ^ 4
