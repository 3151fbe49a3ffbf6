-- The eleven calls: answer, store after, bytes written (01: commit/mod.rs, 'Refusals').
use Rattle.std.specs.Prelude.{ℕ, suc, ◌+◌, ◌-◌, max, min, List, [], Bool, true, false, not, ◌&&◌, ◌||◌, cond, eqb, leb, ltb, length}
use Rattle.std.proofs.Math.Option.{Option, none, some}
use Rattle.laws.specs.Scan.{any, lowest}
use Rattle.laws.specs.Lists.{has}
use Rattle.laws.specs.Bytes.{written}
use Rattle.spec.specs.Ids.{Id}
use Rattle.spec.specs.Store.{Resolution, Point, Memory, Conf, started, reset, Store, unresolved, no_flags, free, no_round, no_memory, round_at, resolved, links, retained, with_points, with_progress, with_memory, with_gap}
use Rattle.spec.specs.Paths.{height}
use Rattle.spec.specs.Rules.{is_peer, same_digest, versions, well_formed, dangling, used_ok, last_round, conf_ok, places_ok, counts_as_started, was_reset}
use Rattle.spec.specs.Chain.{Refusal, number, conflict, Out, bad, good, then, refuse, place_of, anchors_of}
use Rattle.spec.specs.History.{gap_pending, Finished, commit_all, outlook_all}
use Rattle.spec.specs.Inspect.{inspected, memory_after, remove_bytes}

-- ---- answers

-- done: start, reset, round, name, resolve, certify, remove. flag: gap question, drop. anchors: how many a commit or outlook has.
-- refused: with the finished anchors, 0 in every call but commit.
pub data Answer : Type 0 where
  done : Answer
  flag : Bool → Answer
  anchors : ℕ → Answer
  refused : Refusal → ℕ → Answer

-- 01, 'Refusals': the number of a refusal, and what is returned with it
unfoldable pub number_of : Refusal → ℕ
number_of (number n) = n
number_of (conflict r) = 13

unfoldable pub conflict_round : Refusal → Option ℕ
conflict_round (number n) = none
conflict_round (conflict r) = some r

-- what a call leaves; buffer: the lent answer buffer, [] for a call that takes none
pub record Outcome : Type 0 where
  pub answer : Answer
  pub store : Store
  pub buffer : List ℕ

abbrev pub without_buffer : Store → Answer → Outcome
without_buffer s a = record { answer = a; store = s; buffer = [] }

-- "Nothing changes unless stated." A call without a buffer: refused, or the store after it
unfoldable pub finish : Store → Out Store → Outcome
finish s (bad r) = without_buffer s (refused r 0)
finish s (good t) = without_buffer t done

-- ---- start and reset

pub record StartArgs : Type 0 where
  pub conf : Conf
  pub bottom : ℕ
  pub peers : ℕ
  pub after_gap : Bool
  pub used : Option ℕ

-- 1: "H of 0 or above 255; deduplicate rounds above 65,535; a round above 4,000,000,000; bottom below genesis; used author above 31;
-- a table of no places or above 4,096"
unfoldable pub start_ok : ℕ → StartArgs → Bool
start_ok n b =
    conf_ok b.conf && (leb b.conf.genesis last_round && (leb b.bottom last_round && (leb b.conf.genesis b.bottom && (used_ok b.used && places_ok n))))

-- `full_history_bottom` of a start
unfoldable pub full_bottom_at : Conf → ℕ → ℕ
full_bottom_at c b = cond (leb b (c.genesis + c.history_rounds)) b (b + c.history_rounds)

unfoldable pub begun : ℕ → Memory → StartArgs → Store
begun n m b = let full = full_bottom_at b.conf b.bottom in record {
  phase = started;
  places = n;
  pt = λ q. free;
  heights = λ q. 0;
  bottom = b.bottom;
  top = b.bottom;
  rounds = λ r. cond (eqb r b.bottom) (record { peers = b.peers; used = b.used }) no_round;
  conf = b.conf;
  progress = record {
    last_proof = none;
    last_anchor = none;
    full_bottom = full;
    first_executable = cond b.after_gap (full + b.conf.deduplicate_rounds) b.bottom;
    gap = cond b.after_gap (some false) none;
  };
  memory = m;
}

-- "a start clears them, the inspector's memory too; a start after a reset keeps that memory"
unfoldable pub memory_kept : Store → Memory
memory_kept s = cond (was_reset s) s.memory no_memory

-- 1, then 2: "start twice"
unfoldable pub do_start : Store → StartArgs → Outcome
do_start s b = finish s (refuse (not (start_ok s.places b)) 1 (refuse (counts_as_started s) 2 (good (begun s.places (memory_kept s) b))))

-- "Reset keeps the inspector's memory of its last round."
unfoldable pub cleared : Store → Store
cleared s = record {
  phase = reset;
  places = s.places;
  pt = λ q. free;
  heights = λ q. 0;
  bottom = 0;
  top = 0;
  rounds = λ r. no_round;
  conf = record { genesis = 0; history_rounds = 0; deduplicate_rounds = 0 };
  progress = record { last_proof = none; last_anchor = none; full_bottom = 0; first_executable = 0; gap = none };
  memory = s.memory;
}

-- ---- rounds

unfoldable pub add_round : Store → ℕ → Store
add_round s peers = record {
  phase = s.phase;
  places = s.places;
  pt = s.pt;
  heights = s.heights;
  bottom = s.bottom;
  top = suc s.top;
  rounds = λ r. cond (eqb r (suc s.top)) (record { peers = peers; used = none }) (s.rounds r);
  conf = s.conf;
  progress = s.progress;
  memory = s.memory;
}

-- 3: "round beyond top + 1, or above 4,000,000,000"; "Adding a round at or below the top does nothing."; 4: "512 rounds"
unfoldable pub do_round : Store → ℕ → ℕ → Out Store
do_round s r peers =
    refuse (ltb (suc s.top) r || ltb last_round r) 3 (elim (leb r s.top) [
      | true ↦ good s
      | false ↦ refuse (leb 512 (suc s.top - s.bottom)) 4 (good (add_round s peers))
    ])

-- ---- points

-- "Wherever an id is given the order is 2, 5 (author above 31), 6, 5 (not a peer of its round)"
unfoldable pub at_id : {A : Type 0} → Store → Id → Out A → Out A
at_id s i o = refuse (leb 32 i.author) 5 (refuse (not (retained s i.round)) 6 (refuse (not (is_peer s i)) 5 o))

-- the point i is named at the place q
unfoldable pub new_point : Id → Point
new_point i = record { named = true; id = i; resolution = unresolved; flags = no_flags }

unfoldable pub name_at : Store → Id → ℕ → Store
name_at s i q = with_points s (λ p. cond (eqb p q) (new_point i) (s.pt p)) (λ p. cond (eqb p q) 0 (s.heights p))

-- 4: "table full"; "freed places are used again": the lowest free place is taken
unfoldable pub into_free : Store → Id → Option ℕ → Out Store
into_free s i none = bad (number 4)
into_free s i (some q) = good (name_at s i q)

-- "naming goes on with 7, 8, 4": 8: "fifth digest"
unfoldable pub do_name : Store → Id → Out Store
do_name s i =
    at_id s i (refuse (any s.places (same_digest s i)) 7 (refuse (leb 4 (versions s i)) 8 (into_free s i (lowest s.places (λ q. not (s.pt q).named)))))

-- s with the heights of its paths
unfoldable pub with_path_heights : Store → Store
with_path_heights s = with_points s s.pt (height s)

-- flags started and completed are set where links come in: status 1 to 3
unfoldable pub resolved_as : Bool → Resolution → Point → Point
resolved_as b t p = let set = b && leb t.status 3 in record {
  named = p.named;
  id = p.id;
  resolution = cond b t p.resolution;
  flags = record { top = p.flags.top; started = set || p.flags.started; completed = set || p.flags.completed; committed = p.flags.committed };
}

unfoldable pub resolve_at : Store → Resolution → ℕ → Store
resolve_at s t q = with_path_heights (with_points s (λ p. resolved_as (eqb p q) t (s.pt p)) s.heights)

-- 10: "resolved already"; 11; 12
unfoldable pub resolving : Store → Resolution → ℕ → Out Store
resolving s t q =
    refuse (resolved (s.pt q)) 10 (refuse (not (well_formed (round_at s q) t)) 11 (
    refuse (has (dangling s (round_at s q)) (links (resolved_as true t (s.pt q)))) 12 (good (resolve_at s t q))
    ))

unfoldable pub do_resolve : Store → Id → Resolution → Out Store
do_resolve s i t = at_id s i (then (place_of s i) (resolving s t))

-- "Certifying marks a point as top. .. A second certificate changes nothing."
unfoldable pub set_top : Bool → Point → Point
set_top b p = record {
  named = p.named;
  id = p.id;
  resolution = p.resolution;
  flags = record { top = b || p.flags.top; started = p.flags.started; completed = p.flags.completed; committed = p.flags.committed };
}

unfoldable pub certify_at : Store → ℕ → Store
certify_at s q = with_path_heights (with_points s (λ p. set_top (eqb p q) (s.pt p)) s.heights)

unfoldable pub do_certify : Store → Id → Out Store
do_certify s i = at_id s i (then (place_of s i) (λ q. good (certify_at s q)))

-- ---- the gap question (`is_once_after_gap`)

unfoldable pub do_gap_question : Store → Outcome
do_gap_question s = elim (gap_pending s.progress.gap) [ true ↦ without_buffer (with_gap s (some true)) (flag true) | false ↦ without_buffer s (flag false) ]

-- ---- commit and outlook

unfoldable pub commit_end : Finished → Outcome
commit_end f = record { answer = ended f.stopped; store = f.store; buffer = f.buffer }
  where
    ended : Option Refusal → Answer
    ended none = anchors f.anchors
    ended (some r) = refused r f.anchors

-- "A commit does its whole walk first"; l: the lent lists, b: the lent buffer
unfoldable pub do_commit : Store → Id → List ℕ → List ℕ → Outcome
do_commit s i l b = elim (anchors_of s i) [
  | bad r ↦ record { answer = refused r 0; store = s; buffer = b }
  | good es ↦ commit_end (commit_all s l b 0 0 es)
]

-- "It changes nothing in the store. It is refused as the commit would be .. with nothing written and 0 finished anchors."
unfoldable pub do_outlook : Store → Id → List ℕ → Outcome
do_outlook s i b = elim (anchors_of s i) [
  | bad r ↦ record { answer = refused r 0; store = s; buffer = b }
  | good es ↦ elim (outlook_all s (length b) es) [
    | bad r ↦ record { answer = refused r 0; store = s; buffer = b }
    | good bytes ↦ record { answer = anchors (length es); store = s; buffer = written b 0 bytes }
  ]
]

-- ---- remove and drop

-- the rounds below b go, b between bottom and top: their points' places are free again
unfoldable pub drained : Store → ℕ → Store
drained s b = record {
  phase = s.phase;
  places = s.places;
  pt = λ q. cond (ltb (round_at s q) b) free (s.pt q);
  heights = λ q. cond (ltb (round_at s q) b) 0 (s.heights q);
  bottom = b;
  top = s.top;
  rounds = λ r. cond (ltb r b) no_round (s.rounds r);
  conf = s.conf;
  progress = s.progress;
  memory = s.memory;
}

-- the new bottom: never below the old one, and a round is left
unfoldable pub new_bottom : Store → ℕ → ℕ
new_bottom s r = max s.bottom (min r s.top)

-- 23: "remove above the last anchor handed out since the start, or none"
unfoldable pub beyond : Option ℕ → ℕ → Bool
beyond none r = true
beyond (some a) r = ltb a r

-- "Remove tests 2, 23, 21.", the last against the answer's bytes
unfoldable pub removing : Store → ℕ → List ℕ → List ℕ → Out (List ℕ)
removing s r b bytes = refuse (beyond s.progress.last_anchor r) 23 (refuse (ltb (length b) (length bytes)) 21 (good bytes))

-- it drains up to H rounds below the anchor and inspects what it drains
unfoldable pub do_remove : Store → ℕ → Option ℕ → List ℕ → Outcome
do_remove s r from b =
    let low = new_bottom s (r - s.conf.history_rounds) in
    elim (removing s r b (remove_bytes s low from)) [
      | bad n ↦ record { answer = refused n 0; store = s; buffer = b }
      | good bytes ↦ record { answer = done; store = with_memory (drained s low) (memory_after s s.memory (inspected s low)); buffer = written b 0 bytes }
    ]

-- "Drop below the bottom drains nothing yet sets the full-history bottom." Yes: the whole range is dropped.
unfoldable pub do_drop : Store → ℕ → Outcome
do_drop s r =
    let actual = min r s.top in
    let full = actual + s.conf.history_rounds in
    without_buffer (with_progress (drained s (new_bottom s r)) (record {
      last_proof = s.progress.last_proof;
      last_anchor = s.progress.last_anchor;
      full_bottom = full;
      first_executable = full + s.conf.deduplicate_rounds;
      gap = some false;
    })) (flag (eqb actual r))

-- ---- all calls

pub data Call : Type 0 where
  start : StartArgs → Call
  reset_all : Call
  round : ℕ → ℕ → Call
  name : Id → Call
  resolve : Id → Resolution → Call
  certify : Id → Call
  gap_question : Call
  commit : Id → List ℕ → List ℕ → Call
  outlook : Id → List ℕ → Call
  remove : ℕ → Option ℕ → List ℕ → Call
  drop : ℕ → Call

-- the buffer that a call is lent
unfoldable pub buffer_of : Call → List ℕ
buffer_of (start b) = []
buffer_of reset_all = []
buffer_of (round r peers) = []
buffer_of (name i) = []
buffer_of (resolve i t) = []
buffer_of (certify i) = []
buffer_of gap_question = []
buffer_of (commit i l b) = b
buffer_of (outlook i b) = b
buffer_of (remove r from b) = b
buffer_of (drop r) = []

-- what a call does, the tables once tested
unfoldable pub perform : Store → Call → Outcome
perform s (start b) = do_start s b
perform s reset_all = without_buffer (cleared s) done
perform s (round r peers) = finish s (do_round s r peers)
perform s (name i) = finish s (do_name s i)
perform s (resolve i t) = finish s (do_resolve s i t)
perform s (certify i) = finish s (do_certify s i)
perform s gap_question = do_gap_question s
perform s (commit i l b) = do_commit s i l b
perform s (outlook i b) = do_outlook s i b
perform s (remove r from b) = do_remove s r from b
perform s (drop r) = do_drop s r

-- 2: "not started"; of the calls only start is for tables that don't count as started
unfoldable pub is_start : Call → Bool
is_start c = elim c [ start b ↦ true | reset_all ↦ false | round r peers ↦ false | name i ↦ false | resolve i t ↦ false | certify i ↦ false | gap_question ↦ false | commit i l b ↦ false | outlook i b ↦ false | remove r from b ↦ false | drop r ↦ false ]

abbrev pub unstarted : Store → Call → Outcome
unstarted s c = record { answer = refused (number 2) 0; store = s; buffer = buffer_of c }

-- "Each call tests the tables against this paper's rules"
unfoldable pub call : Store → Call → Outcome
call s c = elim (counts_as_started s || is_start c) [ true ↦ perform s c | false ↦ unstarted s c ]
