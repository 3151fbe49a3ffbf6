-- What remove counts and reports of the drained rounds (01: inspector.rs, stats.rs).
use Rattle.std.specs.Prelude.{ℕ, zero, suc, ◌+◌, ◌-◌, ◌*◌, max, List, [], ◌∷◌, ◌++◌, map, Bool, true, false, not, ◌&&◌, ◌||◌, cond, eqb, leb, ltb, length, get_or}
use Rattle.std.proofs.Math.Option.{Option, none, some}
use Rattle.laws.specs.Scan.{those}
use Rattle.laws.specs.Lists.{has, keep, count, joined, up_to}
use Rattle.laws.specs.Sort.{sort}
use Rattle.laws.specs.Peers.{member}
use Rattle.laws.specs.Bytes.{be}
use Rattle.spec.specs.Ids.{Id, Ref, id_bytes, prev}
use Rattle.spec.specs.Store.{Entry, Memory, Store, resolved_at, named_at, never, id_at, round_at, status_at, look_at, previous}
use Rattle.spec.specs.Paths.{certified, proved}

-- ---- a drained round

-- the places of the points of round r, "inside a round all lists rise by digest"
unfoldable pub places_in : Store → ℕ → List ℕ
places_in s r = sort (λ p q. leb (id_at s p).digest (id_at s q).digest) (those s.places (λ q. (s.pt q).named && eqb (round_at s q) r))

-- those of the author a that pass a test
abbrev pub of : (ℕ → Bool) → Store → ℕ → ℕ → Bool
of f s a q = eqb (id_at s q).author a && f q

-- a version that counts: resolved, and not of status 5
unfoldable pub is_found : Store → ℕ → Bool
is_found s q = elim (look_at s q) [ resolved_at p ↦ ltb (status_at s p) 5 | named_at p ↦ false | never ↦ false ]

unfoldable pub is_valid : Store → ℕ → Bool
is_valid s q = eqb (status_at s q) 1

unfoldable pub is_proved : Store → ℕ → Bool
is_proved s q = elim (look_at s q) [ resolved_at p ↦ proved s p | named_at p ↦ false | never ↦ false ]

-- kind 1: trans-invalid, not proved, its cause has a DAG round
unfoldable pub is_trans_invalid : Store → ℕ → Bool
is_trans_invalid s q = eqb (status_at s q) 2 && (not (proved s q) && (s.pt q).resolution.cause)

-- kind 2: invalid, not certified, its cause has a DAG round
unfoldable pub is_invalid : Store → ℕ → Bool
is_invalid s q = eqb (status_at s q) 3 && (not (certified s q) && (s.pt q).resolution.cause)

-- kind 3: ill-formed, not certified
unfoldable pub is_ill_formed : Store → ℕ → Bool
is_ill_formed s q = eqb (status_at s q) 4 && not (certified s q)

-- `DagPoint::trusted`: valid, or trans-invalid or invalid and certified
unfoldable pub is_trusted : Store → ℕ → Bool
is_trusted s q = eqb (status_at s q) 1 || ((eqb (status_at s q) 2 || eqb (status_at s q) 3) && certified s q)

-- ---- references (`must_reference`, `exclude_witness`)

-- a link to the digest d among these
unfoldable pub refers_to : ℕ → List Ref → Bool
refers_to d rs = has (λ r. eqb r.digest d) rs

-- a trusted point of a at round r includes, or witnesses, the digest d
unfoldable pub included_by : Store → ℕ → ℕ → ℕ → Bool
included_by s r a d = has (λ q. of (is_trusted s) s a q && refers_to d (s.pt q).resolution.includes) (places_in s r)

unfoldable pub witnessed_by : Store → ℕ → ℕ → ℕ → Bool
witnessed_by s r a d = has (λ q. of (is_trusted s) s a q && refers_to d (s.pt q).resolution.witness) (places_in s r)

-- a signed the previous point (its digest, if there is one) and no trusted point of a at round r includes it
unfoldable pub must_reference : Store → ℕ → Option ℕ → ℕ → Bool
must_reference s r none a = false
must_reference s r (some d) a = not (included_by s r a d)

-- "the inspector's memory of its last round": what it keeps of round r
unfoldable pub entry_of : Store → ℕ → ℕ → Entry
entry_of s r q = record {
  author = (id_at s q).author;
  digest = (id_at s q).digest;
  previous = previous (s.pt q);
  unreferenced_by = λ a. member (s.pt q).resolution.evidence a && must_reference s r (previous (s.pt q)) a;
}

unfoldable pub round_data : Store → ℕ → Memory
round_data s r = record { last = r; entries = map (entry_of s r) (keep (is_trusted s) (places_in s r)) }

-- an option holds x
unfoldable pub holds : Option ℕ → ℕ → Bool
holds none x = false
holds (some y) x = eqb y x

-- the greatest digest of the entries that pass
unfoldable pub larger : ℕ → Option ℕ → Option ℕ
larger x none = some x
larger x (some y) = some (max x y)

unfoldable pub greatest : (Entry → Bool) → List Entry → Option ℕ
greatest f [] = none
greatest f (e ∷ es) = cond (f e) (larger e.digest (greatest f es)) (greatest f es)

-- the proof that is reported for the previous digest d that a owes: "If two proofs share a previous digest, the greater proof digest
-- is reported."; none where a trusted point of a at round r witnesses d
unfoldable pub due : List Entry → Store → ℕ → ℕ → ℕ → Option ℕ
due es s r a d = cond (witnessed_by s r a d) none (greatest (λ e. e.unreferenced_by a && holds e.previous d) es)

unfoldable pub reported : List Entry → Store → ℕ → ℕ → Entry → Bool
reported es s r a e = e.unreferenced_by a && due_is e.previous
  where
    due_is : Option ℕ → Bool
    due_is none = false
    due_is (some d) = holds (due es s r a d) e.digest

-- the proofs reported against a at round r, one for each previous digest that a owes
unfoldable pub proofs : List Entry → Store → ℕ → ℕ → List Entry
proofs es s r a = keep (reported es s r a) es

-- the digests of the points of a, in the memory and at round r (`authored`)
unfoldable pub authored_then : List Entry → ℕ → List ℕ
authored_then es a = map (λ e. e.digest) (keep (λ e. eqb e.author a) es)

unfoldable pub authored_now : Store → ℕ → ℕ → List ℕ
authored_now s r a = map (λ q. (id_at s q).digest) (keep (of (is_trusted s) s a) (places_in s r))

unfoldable pub is_nil : {A : Type 0} → List A → Bool
is_nil [] = true
is_nil (x ∷ xs) = false

-- the memory is of the round below; a made points at both rounds and owes a reference
unfoldable pub not_referenced : Memory → Store → ℕ → ℕ → Bool
not_referenced m s r a =
    eqb m.last (prev r) && (not (is_nil (proofs m.entries s r a)) && (not (is_nil (authored_then m.entries a)) && not (is_nil (authored_now s r a))))

-- ---- counters

-- the nine counters in the order of `MempoolPeerCounters`
pub record Counters : Type 0 where
  pub was_leader : ℕ
  pub skipped_rounds : ℕ
  pub valid_points : ℕ
  pub points_proved : ℕ
  pub equivocated : ℕ
  pub trans_invalid : ℕ
  pub invalid : ℕ
  pub ill_formed : ℕ
  pub references_skipped : ℕ

abbrev pub one : Bool → ℕ
one b = cond b 1 0

unfoldable pub counted : Memory → Store → ℕ → ℕ → Counters
counted m s r a = let ps = places_in s r in record {
  was_leader = one (holds (s.rounds r).used a);
  skipped_rounds = one (eqb (count (of (is_found s) s a) ps) 0);
  valid_points = one (has (of (is_valid s) s a) ps);
  points_proved = count (of (is_proved s) s a) ps;
  equivocated = count (of (is_found s) s a) ps - 1;
  trans_invalid = count (of (is_trans_invalid s) s a) ps;
  invalid = count (of (is_invalid s) s a) ps;
  ill_formed = count (of (is_ill_formed s) s a) ps;
  references_skipped = cond (not_referenced m s r a) (length (proofs m.entries s r a)) 0;
}

unfoldable pub add : Counters → Counters → Counters
add x y = record {
  was_leader = x.was_leader + y.was_leader;
  skipped_rounds = x.skipped_rounds + y.skipped_rounds;
  valid_points = x.valid_points + y.valid_points;
  points_proved = x.points_proved + y.points_proved;
  equivocated = x.equivocated + y.equivocated;
  trans_invalid = x.trans_invalid + y.trans_invalid;
  invalid = x.invalid + y.invalid;
  ill_formed = x.ill_formed + y.ill_formed;
  references_skipped = x.references_skipped + y.references_skipped;
}

-- "first and last round" and the counters
pub record Stats : Type 0 where
  pub first : ℕ
  pub last : ℕ
  pub counters : Counters

unfoldable pub merge : Option Stats → ℕ → Counters → Option Stats
merge none r c = some (record { first = r; last = r; counters = c })
merge (some t) r c = some (record { first = t.first; last = r; counters = add t.counters c })

-- ---- the drained rounds, rising

-- a round and the memory that it meets
pub record InspectedRound : Type 0 where
  pub memory : Memory
  pub round : ℕ

unfoldable pub up_from : ℕ → ℕ → List ℕ
up_from r zero = []
up_from r (suc k) = r ∷ up_from (suc r) k

-- `last_non_executable`
unfoldable pub last_non_executable : Store → ℕ
last_non_executable s = max (prev s.progress.first_executable) s.conf.genesis

-- of the rounds below b those from the last non-executable one on are inspected
unfoldable pub inspected : Store → ℕ → List ℕ
inspected s b = keep (leb (last_non_executable s)) (up_from s.bottom (b - s.bottom))

unfoldable pub inspected_rounds : Store → Memory → List ℕ → List InspectedRound
inspected_rounds s m [] = []
inspected_rounds s m (r ∷ rs) = record { memory = m; round = r } ∷ inspected_rounds s (round_data s r) rs

unfoldable pub memory_after : Store → Memory → List ℕ → Memory
memory_after s m [] = m
memory_after s m (r ∷ rs) = memory_after s (round_data s r) rs

-- the last non-executable round refills the memory and isn't reported
unfoldable pub shown : Store → ℕ → List InspectedRound
shown s b = keep (λ v. ltb (last_non_executable s) v.round) (inspected_rounds s s.memory (inspected s b))

-- `stats_since`: none suppresses all counters, a round those of the rounds before it
unfoldable pub since : Option ℕ → ℕ → Bool
since none r = false
since (some from) r = leb from r

unfoldable pub total : Store → ℕ → List InspectedRound → Option Stats → Option Stats
total s a [] t = t
total s a (v ∷ vs) t = total s a vs (merge t v.round (counted v.memory s v.round a))

unfoldable pub stats_of : Store → ℕ → Option ℕ → ℕ → Option Stats
stats_of s b from a = total s a (keep (λ v. since from v.round && member (s.rounds v.round).peers a) (shown s b)) none

-- ---- score

-- "Weights for counts 1–9, 10–99, 100 up", in the order of the counters
abbrev pub weights : List (List ℕ)
weights =
    (0 ∷ 0 ∷ 0 ∷ []) ∷ (2 ∷ 3 ∷ 4 ∷ []) ∷ (0 ∷ 0 ∷ 0 ∷ []) ∷ (0 ∷ 0 ∷ 0 ∷ []) ∷ (20 ∷ 40 ∷ 60 ∷ []) ∷ (5 ∷ 8 ∷ 12 ∷ []) ∷ (10 ∷ 15 ∷ 20 ∷ []) ∷ (10 ∷ 15 ∷ 20 ∷ []) ∷ (1 ∷ 2 ∷ 3 ∷ []) ∷ []

unfoldable pub band : ℕ → ℕ
band n = cond (ltb n 10) 0 (cond (ltb n 100) 1 2)

unfoldable pub weight : ℕ → ℕ → ℕ
weight i n = get_or (get_or weights i []) (band n) 0

-- the counters as a list, in their order
unfoldable pub counter_list : Counters → List ℕ
counter_list c =
    c.was_leader ∷ c.skipped_rounds ∷ c.valid_points ∷ c.points_proved ∷ c.equivocated ∷ c.trans_invalid ∷ c.invalid ∷ c.ill_formed ∷ c.references_skipped ∷ []

-- "Score (added): count times weight, summed."
unfoldable pub score_from : ℕ → List ℕ → ℕ
score_from i [] = 0
score_from i (n ∷ ns) = n * weight i n + score_from (suc i) ns

unfoldable pub score : Counters → ℕ
score c = score_from 0 (counter_list c)

-- ---- events

pub data Event : Type 0 where
  -- kind 1 trans-invalid, 2 invalid, 3 ill-formed, with the id
  single : ℕ → Id → Event
  -- kind 4: author, round, digests
  equivocation : ℕ → ℕ → List ℕ → Event
  -- kind 5: signer, blamed ids, proof ids
  no_inclusion : ℕ → List Id → List Id → Event

-- one event, or none
unfoldable pub only_if : Bool → Event → List Event
only_if b e = cond b (e ∷ []) []

unfoldable pub singles : ℕ → (Store → ℕ → Bool) → Store → InspectedRound → ℕ → List Event
singles kind f s v a = map (λ q. single kind (id_at s q)) (keep (of (f s) s a) (places_in s v.round))

unfoldable pub equivocations : Store → InspectedRound → ℕ → List Event
equivocations s v a =
    let qs = keep (of (is_found s) s a) (places_in s v.round) in
    only_if (ltb 1 (length qs)) (equivocation a v.round (map (λ q. (id_at s q).digest) qs))

abbrev pub ids_of : ℕ → ℕ → List ℕ → List Id
ids_of r a ds = map (λ d. record { round = r; author = a; digest = d }) ds

-- "Blamed ids have the earlier round first"
unfoldable pub no_inclusions : Store → InspectedRound → ℕ → List Event
no_inclusions s v a =
    let m = v.memory in
    only_if (not_referenced m s v.round a)
    (no_inclusion a (ids_of m.last a (authored_then m.entries a) ++ ids_of v.round a (authored_now s v.round a))
    (map (λ e. record { round = m.last; author = e.author; digest = e.digest }) (proofs m.entries s v.round a)))

-- round by round, and in a round peer by peer
unfoldable pub over : (InspectedRound → ℕ → List Event) → List InspectedRound → List Event
over f vs = joined (λ v. up_to 32 (f v)) vs

-- "in the order of `take_events`, then by round, author (or signer) and digest"
unfoldable pub events : Store → ℕ → List Event
events s b =
    let vs = shown s b in
    over (singles 1 is_trans_invalid s) vs ++ (over (singles 2 is_invalid s) vs ++ (over (singles 3 is_ill_formed s) vs ++ (over (equivocations s) vs ++ over (no_inclusions s) vs)))

-- ---- bytes

-- "per peer, rising by number: number (1), first and last round (4 each), nine 16-bit counters .., score (4)"
unfoldable pub stats_bytes : ℕ → Option Stats → List ℕ
stats_bytes a none = []
stats_bytes a (some t) = be 1 a ++ (be 4 t.first ++ (be 4 t.last ++ (joined (be 2) (counter_list t.counters) ++ be 4 (score t.counters))))

-- "each after its kind (1 byte) .. kind 1 to 3 with an id; 4 author, round, count, digests; 5 signer, count, blamed ids, count, proof
-- ids. Counts are 4 bytes."
unfoldable pub event_bytes : Event → List ℕ
event_bytes (single kind i) = be 1 kind ++ id_bytes i
event_bytes (equivocation a r ds) = be 1 4 ++ (be 1 a ++ (be 4 r ++ (be 4 (length ds) ++ joined (be 32) ds)))
event_bytes (no_inclusion a xs ys) = be 1 5 ++ (be 1 a ++ (be 4 (length xs) ++ (joined id_bytes xs ++ (be 4 (length ys) ++ joined id_bytes ys))))

unfoldable pub is_some : Option Stats → Bool
is_some none = false
is_some (some t) = true

-- "Remove's answer .. is the number of peers (1 byte), then per peer ..; Then the number of events and the events"
unfoldable pub remove_bytes : Store → ℕ → Option ℕ → List ℕ
remove_bytes s b from =
    let stats = stats_of s b from in
    let evs = events s b in
    be 1 (length (those 32 (λ a. is_some (stats a)))) ++ (up_to 32 (λ a. stats_bytes a (stats a)) ++ (be 4 (length evs) ++ joined event_bytes evs))
