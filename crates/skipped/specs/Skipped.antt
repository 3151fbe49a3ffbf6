-- Skipped triggers, the statement (02: N9). Its proof is in Proof.antt.
use Rattle.std.specs.Prelude.{ℕ, zero, suc, ◌+◌, ◌*◌, ◌≡◌, true, take, drop}
use mathlib.Core.List.{List, [], ◌∷◌, ◌++◌, map, Memᴰ}
use Rattle.std.proofs.Math.Option.{some}
use Rattle.laws.specs.Lists.{joined}
use Rattle.laws.specs.Bytes.{value}
use Rattle.spec.specs.Ids.{Id, prev}
use Rattle.spec.specs.Store.{Store, id_at, round_at, status_at, find, previous}
use Rattle.spec.specs.Rules.{counts_as_started}
use Rattle.spec.specs.Chain.{bad, good, EnqueuedAnchor, anchors_of}
use Rattle.spec.specs.History.{rounds_of, linked_counts, after_lists, dequeued}
use Rattle.spec.specs.Calls.{anchors, commit, call}
use Rattle.spec.specs.Demand.{tail_size}
use Rattle.spec.specs.HeightEquations.{Sized}

-- ---- the proofs that a chain passes

-- 01, back.rs: "The sought proof is first the trigger's previous point": its id, for the trigger at t, whose include of its own author has
-- the digest d
abbrev pub previous_id : Store → ℕ → ℕ → Id
previous_id s t d = record { round = prev (round_at s t); author = (id_at s t).author; digest = d }

abbrev pub top_proof_of : Store → EnqueuedAnchor → Id
top_proof_of s e = (s.pt e.anchor).resolution.top_proof

-- "the anchor's top proof is sought next": the proofs that a chain seeks which begins with i and yields the anchors es
abbrev pub sought : Store → Id → List EnqueuedAnchor → List Id
sought s i es = i ∷ map (top_proof_of s) es

-- 02, N9: "T's chain in the second store passes the very proof that S's chain began with (S's previous point)". T is a valid trigger; any
-- other is turned away and has no chain.
pub record Passes (s : Store) (S T : Id) : Type 0 where
  pub first : ℕ
  pub found_first : find s S ≡ some first
  pub digest_first : ℕ
  pub previous_first : previous (s.pt first) ≡ some digest_first
  pub later : ℕ
  pub found_later : find s T ≡ some later
  pub is_valid : status_at s later ≡ 1
  pub is_trigger : (s.pt later).resolution.trigger ≡ true
  pub digest_later : ℕ
  pub previous_later : previous (s.pt later) ≡ some digest_later
  pub chain : List EnqueuedAnchor
  pub yields : anchors_of s T ≡ good chain
  pub passes : Memᴰ (previous_id s first digest_first) (sought s (previous_id s later digest_later) chain)

-- ---- the place lists

-- a list in pieces of these lengths
unfoldable pub pieces : List ℕ → List ℕ → List (List ℕ)
pieces [] l = []
pieces (n ∷ ns) l = take n l ∷ pieces ns (drop n l)

-- the place lists that a commit of the anchors es reads of l: one for each anchor and round, the rounds of an anchor going down
unfoldable pub lists_read : Store → List ℕ → List EnqueuedAnchor → List (List ℕ)
lists_read s l [] = []
lists_read s l (e ∷ es) = pieces (linked_counts s e.anchor) l ++ lists_read (dequeued s e) (after_lists s e.anchor l) es

-- those that f has, a list for each anchor and round
unfoldable pub lists_by : (Id → ℕ → List ℕ) → Store → List EnqueuedAnchor → List (List ℕ)
lists_by f s [] = []
lists_by f s (e ∷ es) = map (f (id_at s e.anchor)) (rounds_of s e.anchor) ++ lists_by f (dequeued s e) es

-- the anchors that i yields; none if its walk is refused
abbrev pub chain_of : Store → Id → List EnqueuedAnchor
chain_of s i = elim (anchors_of s i) [ bad r ↦ [] | good es ↦ es ]

-- the commit of i is lent f's lists; bytes beyond stay free
abbrev pub Lent : (Id → ℕ → List ℕ) → Store → Id → List ℕ → Type 0
Lent f s i l = lists_read s l (chain_of s i) ≡ lists_by f s (chain_of s i)

-- the bytes that the commit of i reads of l
abbrev pub bytes_read : Store → Id → List ℕ → List ℕ
bytes_read s i l = joined (λ (p : List ℕ). p) (lists_read s l (chain_of s i))

-- ---- the records

-- the bytes of the record at the front, by the number of points that it says
unfoldable pub record_size : List ℕ → ℕ
record_size bs = let points = value 0 (take 4 (drop 79 bs)) in 83 + points * 37 + tail_size points

-- the first n records in a buffer
unfoldable pub records_in : ℕ → List ℕ → List (List ℕ)
records_in zero bs = []
records_in (suc n) bs = take (record_size bs) bs ∷ records_in n (drop (record_size bs) bs)

-- ---- the theorem

-- "two stores in the same state, with only commits made. One commits trigger S and then T, the other only T. If none is refused, and T's
-- chain in the second store passes the very proof that S's chain began with (S's previous point), the anchor records of S and T in a row are
-- those of T alone, and both stores end with the same marks." Of any tables that count as started, whatever stands in the buffers; the stores
-- are equal, not only their marks. Same: what is asked of the lists, with the store that S left.
abbrev pub SkippedIf : ((s left : Store) (S T : Id) (ls lt l : List ℕ) → Type 0) → Type 0
SkippedIf Same = (s : Store) → Sized s → counts_as_started s ≡ true → (S T : Id) (ls lt l bs bt b : List ℕ) (m n k : ℕ)
    → let one = call s (commit S ls bs) in let two = call one.store (commit T lt bt) in let alone = call s (commit T l b) in one.answer ≡ anchors m → two.answer ≡ anchors n → alone.answer ≡ anchors k
    → Passes s S T → Same s one.store S T ls lt l
    → (records_in m one.buffer ++ records_in n two.buffer ≡ records_in k alone.buffer) × (m + n ≡ k) × (two.store ≡ alone.store)

-- "Both boards get the same place list for each anchor and round."
abbrev pub SameLists : (Id → ℕ → List ℕ) → (s left : Store) (S T : Id) (ls lt l : List ℕ) → Type 0
SameLists f s left S T ls lt l = Lent f s S ls × Lent f left T lt × Lent f s T l

abbrev pub Skipped : Type 0
Skipped = (f : Id → ℕ → List ℕ) → SkippedIf (SameLists f)

-- The same by bytes, as hosts lend them: those that S and T read, in a row, are those that T alone reads.
abbrev pub SameInRow : (s left : Store) (S T : Id) (ls lt l : List ℕ) → Type 0
SameInRow s left S T ls lt l = bytes_read s S ls ++ bytes_read left T lt ≡ bytes_read s T l

abbrev pub SkippedInRow : Type 0
SkippedInRow = SkippedIf SameInRow
