-- The history of an anchor and the tests of it (01: back.rs 'History', commit/mod.rs, output.rs, 'Refusals' 13 to 22).
use Rattle.std.specs.Prelude.{ℕ, zero, suc, ◌+◌, ◌-◌, max, ◌≡◌, List, [], ◌∷◌, ◌++◌, map, reverse, Bool, true, false, not, ◌&&◌, ◌||◌, cond, eqb, leb, ltb, length, get_or, take, drop}
use Rattle.std.proofs.Math.Option.{Option, none, some}
use Rattle.laws.specs.Scan.{any, every, those}
use Rattle.laws.specs.Lists.{has, keep, count, joined, weigh}
use Rattle.laws.specs.Sort.{sort}
use Rattle.laws.specs.Bytes.{be, written}
use Rattle.spec.specs.Ids.{Id, Link, id_bytes, rises, falls, fits, prev}
use Rattle.spec.specs.Store.{Resolution, Point, Store, Conf, Round, id_at, round_at, links, links_to}
use Rattle.spec.specs.Paths.{LinkedTo, height}
use Rattle.spec.specs.Chain.{Refusal, Out, bad, good, then, refuse, checked, is_committable, EnqueuedAnchor}

-- 01, back.rs: "limit = the larger of genesis + 1 and anchor − H"
unfoldable pub limit : Conf → ℕ → ℕ
limit c r = max (suc c.genesis) (r - c.history_rounds)

-- the lowest round of the history of the anchor at a: the limit, or the bottom where rounds are missing
abbrev pub lowest : Store → ℕ → ℕ
lowest s a = max (limit s.conf (round_at s a)) s.bottom

-- 01, back.rs: "From the anchor downwards, uncommitted points hand on their links; committed ones don't. Needed are the anchor and all
-- points so linked, committed ones too."
pub data Need (s : Store) (a : ℕ) : ℕ → Type 0 where
  anchor : Need s a a
  hand : (p q : ℕ) → Need s a p → (s.pt p).flags.committed ≡ false → LinkedTo s p q → Need s a q

-- the same as a sweep downwards, round by round: the marked points of round r that aren't committed hand on their links
unfoldable pub hands : Store → (ℕ → Bool) → ℕ → ℕ → ℕ → Bool
hands s m r q p = elim (eqb (round_at s p) r) [ true ↦ elim (m p) [ true ↦ not (s.pt p).flags.committed && links_to (s.pt p) (s.pt q) | false ↦ false ] | false ↦ false ]

unfoldable pub pass : Store → (ℕ → Bool) → ℕ → ℕ → Bool
pass s m r q = elim (m q) [ true ↦ true | false ↦ any s.places (hands s m r q) ]

-- k rounds, from r downwards
unfoldable pub sweep : Store → ℕ → (ℕ → Bool) → ℕ → ℕ → Bool
sweep s zero m r = m
sweep s (suc k) m r = sweep s k (pass s m r) (prev r)

unfoldable pub marks : Store → ℕ → ℕ → Bool
marks s a = sweep s (suc (round_at s a) - lowest s a) (eqb a) (round_at s a)

-- the needed points, in the retained rounds from the limit up
unfoldable pub needed : Store → ℕ → ℕ → Bool
needed s a q = marks s a q && leb (lowest s a) (round_at s q)

-- the points of the history: those needed that aren't committed
unfoldable pub in_history : Store → ℕ → ℕ → Bool
in_history s a q = needed s a q && not (s.pt q).flags.committed

-- the set of points in the history, listed by round and digest; the order in which they come out is in_order
unfoldable pub history : Store → ℕ → List Id
history s a = sort rises (map (id_at s) (those s.places (in_history s a)))

-- ---- the order inside a round (02: N1)

-- "all points linked in that round, the anchor and committed ones too, sorted by digest": their places
unfoldable pub linked_in : Store → ℕ → ℕ → List ℕ
linked_in s a r = sort (λ p q. leb (id_at s p).digest (id_at s q).digest) (those s.places (λ q. needed s a q && eqb (round_at s q) r))

-- k rounds, from r downwards
unfoldable pub down_from : ℕ → ℕ → List ℕ
down_from r zero = []
down_from r (suc k) = r ∷ down_from (prev r) k

-- "each round from the anchor's down to the limit or the store's bottom"
abbrev pub rounds_of : Store → ℕ → List ℕ
rounds_of s a = down_from (round_at s a) (suc (round_at s a) - lowest s a)

-- "how many such points each of those rounds has"
abbrev pub counts_in : Store → ℕ → List ℕ → List ℕ
counts_in s a rs = map (λ r. length (linked_in s a r)) rs

abbrev pub linked_counts : Store → ℕ → List ℕ
linked_counts s a = counts_in s a (rounds_of s a)

-- "each place from 0 once"
unfoldable pub each_once : ℕ → List ℕ → Bool
each_once n l = eqb (length l) n && every n (λ k. eqb (count (eqb k) l) 1)

-- 24: "a list that isn't each place from 0 once"; "lists end to end .. bytes beyond them unread". It reads nothing but counts and bytes.
unfoldable pub lists_ok : List ℕ → List ℕ → Bool
lists_ok [] l = true
lists_ok (n ∷ ns) l = each_once n (take n l) && lists_ok ns (drop n l)

-- a round's points ps in "the order its shuffle left"; "Uncommitted points come out in the reverse of that order."
unfoldable pub round_out : Store → List ℕ → List ℕ → List ℕ
round_out s ps l = reverse (keep (λ q. not (s.pt q).flags.committed) (map (λ k. get_or ps k 0) l))

-- the rounds go down, and "Rounds rise in the answer"
unfoldable pub drawn : Store → ℕ → List ℕ → List ℕ → List ℕ
drawn s a [] l = []
drawn s a (r ∷ rs) l =
    let ps = linked_in s a r in
    drawn s a rs (drop (length ps) l) ++ round_out s ps (take (length ps) l)

-- the history in the order in which it comes out
unfoldable pub in_order : Store → ℕ → List ℕ → List Id
in_order s a l = map (id_at s) (drawn s a (rounds_of s a) l)

-- "anchor by anchor": what the lists of this one leave
unfoldable pub after_lists : Store → ℕ → List ℕ → List ℕ
after_lists s a l = drop (weigh (λ n. n) (linked_counts s a)) l

-- ---- the tests of an anchor

-- 13 to 15 "over its history downwards .. inside one round, points are tested by rising digest"
unfoldable pub first_fault : Store → List ℕ → Out ℕ
first_fault s [] = good 0
first_fault s (q ∷ qs) = then (checked s is_committable q) (λ x. first_fault s qs)

unfoldable pub faults : Store → ℕ → Out ℕ
faults s a = first_fault s (sort (λ p q. falls (id_at s p) (id_at s q)) (those s.places (needed s a)))

-- 17: "limit at or above the full-history bottom, rounds missing"
unfoldable pub rounds_missing : Store → ℕ → Bool
rounds_missing s a = leb s.progress.full_bottom (limit s.conf (round_at s a)) && ltb (limit s.conf (round_at s a)) s.bottom

-- 18: "history point of height 0"
unfoldable pub any_uncertified : Store → ℕ → Bool
any_uncertified s a = any s.places (λ q. in_history s a q && eqb (height s q) 0)

-- 22: "anchor at genesis"; 13 to 15; 17; 18: what commit and outlook both test
unfoldable pub tested : Store → ℕ → Out ℕ
tested s a =
    refuse (leb (round_at s a) s.conf.genesis) 22 (
    then (faults s a) (λ x. refuse (rounds_missing s a) 17 (refuse (any_uncertified s a) 18 (good a)))
    )

-- 20: "gap question not put"
unfoldable pub gap_pending : Option Bool → Bool
gap_pending none = false
gap_pending (some asked) = not asked

-- all tests of one anchor of a commit that is lent the lists l and has this many bytes of its buffer left, for a record of this length;
-- 24 comes "after 20 and before 21"
unfoldable pub test_anchor : Store → List ℕ → ℕ → ℕ → ℕ → Out ℕ
test_anchor s l left size a =
    then (tested s a) (λ x. refuse (gap_pending s.progress.gap) 20 (refuse (not (lists_ok (linked_counts s a) l)) 24 (refuse (ltb left size) 21 (good a))))

-- ---- the anchor record

unfoldable pub is_executable : Store → ℕ → Bool
is_executable s a = leb s.progress.first_executable (round_at s a)

-- `is_first_executable`: the first executable anchor after a gap, once the gap question was put
unfoldable pub gap_asked : Option Bool → Bool
gap_asked none = false
gap_asked (some asked) = asked

unfoldable pub is_first_executable : Store → ℕ → Bool
is_first_executable s a = gap_asked s.progress.gap && is_executable s a

-- "previous anchor round (4; 0 for none)": the round below the previous proof's, above genesis, and none for the first executable one
unfoldable pub prev_anchor : Store → EnqueuedAnchor → ℕ
prev_anchor s e = cond (ltb s.conf.genesis (prev e.prev_proof_round) && not (is_first_executable s e.anchor)) (prev e.prev_proof_round) 0

-- 02, N2: a sum "over its history", what the points handed out in this record hold
unfoldable pub summed : (Resolution → ℕ) → Store → ℕ → ℕ
summed f s a = weigh (λ q. f (s.pt q).resolution) (those s.places (in_history s a))

-- "an anchor record ends with their two 64-bit sums over its history", lengths first
unfoldable pub sum_bytes : Store → ℕ → List ℕ
sum_bytes s a = be 8 (summed (λ t. t.payload_len) s a) ++ be 8 (summed (λ t. t.payload_bytes) s a)

-- ---- the link behind each point (02: N7)

-- a link of this distance leads from p to q: 1 for an include, 2 for a witness
unfoldable pub links_by : ℕ → Point → Point → Bool
links_by d p q = has (λ (l : Link). eqb l.dist d && fits p.id.round q.id l) (links p)

-- "a point of the same history that links to it .. Among several it is the one in the highest round, then with the lowest digest": the places
-- of those that link to the point at q, the one that is told first
unfoldable pub linkers : Store → ℕ → ℕ → List ℕ
linkers s a q = sort (λ p r. falls (id_at s p) (id_at s r)) (those s.places (λ p. in_history s a p && links_to (s.pt p) (s.pt q)))

-- the place of the point that is told for the one at q: "The anchor stands with itself"; "Any other point without such a link is in no
-- history" (theorem: Behind.behind-is)
unfoldable pub behind : Store → ℕ → ℕ → ℕ
behind s a q = cond (eqb q a) a (get_or (linkers s a q) 0 q)

-- "the word `includes` or `witness`, words filled with zero bytes to 8"; "the word `anchor`"
abbrev pub includes_word : List ℕ
includes_word = 105 ∷ 110 ∷ 99 ∷ 108 ∷ 117 ∷ 100 ∷ 101 ∷ 115 ∷ []

abbrev pub witness_word : List ℕ
witness_word = 119 ∷ 105 ∷ 116 ∷ 110 ∷ 101 ∷ 115 ∷ 115 ∷ 0 ∷ []

abbrev pub anchor_word : List ℕ
anchor_word = 97 ∷ 110 ∷ 99 ∷ 104 ∷ 111 ∷ 114 ∷ 0 ∷ 0 ∷ []

unfoldable pub word_for : Store → ℕ → ℕ → List ℕ
word_for s a q = cond (eqb q a) anchor_word (cond (links_by 1 (s.pt (behind s a q)) (s.pt q)) includes_word witness_word)

-- what is told of the point at q: an id and a word, 45 bytes
unfoldable pub link_bytes : Store → ℕ → ℕ → List ℕ
link_bytes s a q = id_bytes (id_at s (behind s a q)) ++ word_for s a q

-- what follows the ids: "After each history's ids, before N2's sums, comes, for each point in the same order, the id .. and the word"
unfoldable pub tail_bytes : Store → List ℕ → ℕ → List ℕ
tail_bytes s l a = joined (link_bytes s a) (drawn s a (rounds_of s a) l) ++ sum_bytes s a

-- "Anchor record: anchor id, proof id, executable (1 byte), previous anchor round (4; 0 for none), number of points (4), their ids."
-- l: the lists from this anchor's on
unfoldable pub record_bytes : Store → List ℕ → EnqueuedAnchor → List ℕ
record_bytes s l e =
    id_bytes (id_at s e.anchor) ++ (id_bytes (id_at s e.proof) ++ (be 1 (cond (is_executable s e.anchor) 1 0) ++ (be 4 (prev_anchor s e)
    ++ (be 4 (length (in_order s e.anchor l)) ++ (joined id_bytes (in_order s e.anchor l) ++ tail_bytes s l e.anchor)))))

-- ---- one anchor's commit

unfoldable pub set_committed : Bool → Point → Point
set_committed b p = record {
  named = p.named;
  id = p.id;
  resolution = p.resolution;
  flags = record { top = p.flags.top; started = p.flags.started; completed = p.flags.completed; committed = b || p.flags.committed };
}

-- the gap flag is used up by the first executable anchor
unfoldable pub gap_after : Store → ℕ → Option Bool
gap_after s a = cond (is_first_executable s a) none s.progress.gap

-- the proof's round gets its used mark
unfoldable pub use_proof : Round → ℕ → Round
use_proof r a = record { peers = r.peers; used = some a }

-- "Each finished anchor's proof becomes the last committed one": the history is marked, the proof's round used by the anchor's author,
-- proof and anchor become the last ones
unfoldable pub dequeued : Store → EnqueuedAnchor → Store
dequeued s e = record {
  phase = s.phase;
  places = s.places;
  pt = λ q. set_committed (in_history s e.anchor q) (s.pt q);
  heights = s.heights;
  bottom = s.bottom;
  top = s.top;
  rounds = λ r. cond (eqb r (round_at s e.proof)) (use_proof (s.rounds r) (id_at s e.anchor).author) (s.rounds r);
  conf = s.conf;
  progress = record {
    last_proof = some (round_at s e.proof);
    last_anchor = some (round_at s e.anchor);
    full_bottom = s.progress.full_bottom;
    first_executable = s.progress.first_executable;
    gap = gap_after s e.anchor;
  };
  memory = s.memory;
}

-- what a commit leaves: the store, the buffer and the number of finished anchors, with the refusal that stopped it, if any
pub record Finished : Type 0 where
  pub store : Store
  pub buffer : List ℕ
  pub anchors : ℕ
  pub stopped : Option Refusal

-- "Then each anchor, oldest first, is tested .. Finished anchors keep their records and marks." l: the lists that are left; at: the next
-- free byte
unfoldable pub commit_all : Store → List ℕ → List ℕ → ℕ → ℕ → List EnqueuedAnchor → Finished
commit_all s l b at n [] = record { store = s; buffer = b; anchors = n; stopped = none }
commit_all s l b at n (e ∷ es) =
    let bytes = record_bytes s l e in
    elim (test_anchor s l (length b - at) (length bytes) e.anchor) [
      | bad r ↦ record { store = s; buffer = b; anchors = n; stopped = some r }
      | good a ↦ commit_all (dequeued s e) (after_lists s e.anchor l) (written b at bytes) (at + length bytes) (suc n) es
    ]

-- ---- the outlook

-- "for each anchor a trigger would yield, its id and the number of points in its history (4 bytes)"; 02, N1: "each of its records ends with
-- how many such points each of those rounds has (4 bytes each)"; s: the store from which the anchor is counted
unfoldable pub outlook_bytes : Store → ℕ → List ℕ
outlook_bytes s a = id_bytes (id_at s a) ++ (be 4 (length (history s a)) ++ joined (be 4) (linked_counts s a))

-- 02, N6: "Each anchor's count now supposes that the anchors before it in the same outlook have been committed. .. The linked counts from N1
-- suppose the same."; 01: "It is refused as the commit would be, by 20 never, by 21 for its own buffer"; left: the bytes of it that are left
unfoldable pub outlook_all : Store → ℕ → List EnqueuedAnchor → Out (List ℕ)
outlook_all s left [] = good []
outlook_all s left (e ∷ es) =
    let bytes = outlook_bytes s e.anchor in
    then (tested s e.anchor) (λ a. refuse (ltb left (length bytes)) 21 (then (outlook_all (dequeued s e) (left - length bytes) es) (λ rest. good (bytes ++ rest))))
