-- Small lists of calls and what they give: each refusal, the order of the tests, chains of several anchors, place lists, outlooks, picks,
-- payload sums, the links behind points, the look-up's answers, remove's bytes.
use Rattle.std.specs.Prelude.{ℕ, suc, ◌+◌, ◌*◌, ◌≡◌, refl, List, [], ◌∷◌, ◌++◌, map, Bool, true, false, cond, eqb, get_or, take, drop, replicate}
use Rattle.std.proofs.Math.Option.{Option, none, some}
use Rattle.laws.specs.Lists
use Rattle.laws.specs.Bytes.{value}
use Rattle.spec.specs.Ids.{Id, Ref}
use Rattle.spec.specs.Store.{Resolution, Conf, Store, id_at, no_id, resolved_at, named_at, never, look, word, with_progress, with_memory}
use Rattle.spec.specs.Chain.{or_zero}
use Rattle.spec.specs.Picks.{picks}
use Rattle.spec.specs.Inspect.{weight}
use Rattle.spec.specs.Calls.{Answer, Outcome, StartArgs, Call, start, reset_all, round, name, resolve, certify, gap_question, commit, outlook, remove, drop as drop_to, call, start_ok, conflict_round, done, flag, anchors, refused}
use Rattle.spec.specs.Demand.{after}
use Rattle.spec.specs.Scenarios.{Row, conf, blank, from, id, ref, rounds, computed, numbers, same, agree}

-- ---- short ways to write

-- the answer to the last of a list of calls on tables of n places
abbrev answer : ℕ → List Call → Call → List ℕ
answer n cs c = numbers (call (after (blank n) cs) c).answer

-- a row
abbrev row : ℕ → List ℕ → List ℕ → Row
row n x y = record { case = n; given = x; expected = y }

-- refused with n, no anchor finished
abbrev stop : ℕ → List ℕ
stop n = 4 ∷ n ∷ 0 ∷ []

-- a resolution with this status and these links
abbrev gave : ℕ → List Ref → List Ref → Resolution
gave s is ws = record { status = s; proof = false; trigger = false; cause = true; top_proof = id 10 0 0; evidence = 0; includes = is; witness = ws; payload_len = 0; payload_bytes = 0 }

-- a start at 10, used by 0, rounds to 12
abbrev twelve : List Call
twelve = from 2 10 false (some 0) ∷ round 11 3 ∷ round 12 3 ∷ []

-- ---- start, reset, rounds, names

abbrev begin : Conf → ℕ → Option ℕ → StartArgs
begin c b used = record { conf = c; bottom = b; peers = 3; after_gap = false; used = used }

abbrev conf_of : ℕ → ℕ → ℕ → Conf
conf_of g h d = record { genesis = g; history_rounds = h; deduplicate_rounds = d }

-- memory of round 7 in tables as a reset leaves them, and in tables that no call wrote
abbrev remembering : Store → Store
remembering s = with_memory s (record { last = 7; entries = [] })

abbrev starts : List Row
starts =
    row 1 (answer 2 [] (start (begin (conf_of 10 0 5) 10 none))) (stop 1)
    ∷ row 2 (answer 2 [] (start (begin (conf_of 10 256 5) 10 none))) (stop 1)
    ∷ row 3 (answer 2 [] (start (begin (conf_of 10 255 65535) 10 none))) (0 ∷ [])
    ∷ row 4 (answer 2 [] (start (begin (conf_of 10 2 65536) 10 none))) (stop 1)
    ∷ row 5 (answer 2 [] (start (begin (conf_of 4000000000 2 5) 4000000000 none))) (0 ∷ [])
    ∷ row 6 (answer 2 [] (start (begin (conf_of 10 2 5) 4000000001 none))) (stop 1)
    ∷ row 7 (answer 2 [] (start (begin (conf_of 10 2 5) 9 none))) (stop 1)
    ∷ row 8 (answer 2 [] (start (begin (conf_of 10 2 5) 10 (some 31)))) (0 ∷ [])
    ∷ row 9 (answer 2 [] (start (begin (conf_of 10 2 5) 10 (some 32)))) (stop 1)
    ∷ row 10 (answer 0 [] (from 2 10 false none)) (stop 1)
    ∷ row 11 (cond (start_ok 4096 (begin (conf 2) 10 none)) 1 0 ∷ cond (start_ok 4097 (begin (conf 2) 10 none)) 1 0 ∷ []) (1 ∷ 0 ∷ [])
    -- 2: not started, start twice; 1 comes before it
    ∷ row 12 (answer 2 [] (round 11 3)) (stop 2)
    ∷ row 13 (answer 2 twelve (from 2 10 false none)) (stop 2)
    ∷ row 14 (answer 2 twelve (from 0 10 false none)) (stop 1)
    ∷ row 15 (answer 2 [] reset_all) (stop 2)
    ∷ row 16 (answer 2 (twelve ++ (reset_all ∷ [])) (round 13 3)) (stop 2)
    ∷ row 17 (answer 2 (twelve ++ (reset_all ∷ [])) (from 2 10 false none)) (0 ∷ [])
    -- reset keeps the inspector's memory, a start after it too; a start on other tables clears it
    ∷ row 18 ((call (remembering (after (blank 2) twelve)) reset_all).store.memory.last ∷ []) (7 ∷ [])
    ∷ row 19 ((after (remembering (after (blank 2) twelve)) (reset_all ∷ from 2 10 false none ∷ [])).memory.last ∷ []) (7 ∷ [])
    ∷ row 20 ((call (remembering (blank 2)) (from 2 10 false none)).store.memory.last ∷ []) (0 ∷ [])
    -- 3, and a round at or below the top
    ∷ row 21 (answer 2 twelve (round 14 3)) (stop 3)
    ∷ row 22 (answer 2 twelve (round 13 3)) (0 ∷ [])
    ∷ row 23 (answer 2 twelve (round 12 1)) (0 ∷ [])
    ∷ row 24 ((after (blank 2) (twelve ++ (round 12 1 ∷ []))).top ∷ []) (12 ∷ [])
    ∷ row 25 (answer 2 (from 2 4000000000 false none ∷ []) (round 4000000001 3)) (stop 3)
    -- the gap question is answered yes once
    ∷ row 26 (answer 2 twelve gap_question) (2 ∷ [])
    ∷ row 27 (answer 2 (from 2 10 true none ∷ []) gap_question) (1 ∷ [])
    ∷ row 28 (answer 2 (from 2 10 true none ∷ gap_question ∷ []) gap_question) (2 ∷ [])
    -- drop: the new bottom, the full-history bottom, the last round left
    ∷ row 29 (answer 2 twelve (drop_to 13)) (2 ∷ [])
    ∷ row 30 ((after (blank 2) (twelve ++ (drop_to 13 ∷ []))).bottom ∷ []) (12 ∷ [])
    ∷ row 31 (answer 2 twelve (drop_to 12)) (1 ∷ [])
    ∷ []

started : agree starts ≡ true
unfolding computed numbers same agree Lists.all
started = refl

-- ---- names, resolutions, certificates

abbrev named : List Call
named = twelve ++ (name (id 11 0 110) ∷ name (id 12 1 121) ∷ [])

abbrev fourth : List Call
fourth = twelve ++ (name (id 11 0 1) ∷ name (id 11 0 2) ∷ name (id 11 0 3) ∷ name (id 11 0 4) ∷ [])

-- the point 12.1 resolved with this
abbrev resolved_with : Resolution → List ℕ
resolved_with t = answer 4 named (resolve (id 12 1 121) t)

abbrev points : List Row
points =
    row 1 (answer 4 named (name (id 11 32 1))) (stop 5)
    ∷ row 2 (answer 4 named (name (id 99 32 1))) (stop 5)
    ∷ row 3 (answer 4 named (name (id 99 2 1))) (stop 6)
    ∷ row 4 (answer 4 named (name (id 9 0 1))) (stop 6)
    ∷ row 5 (answer 4 named (name (id 11 2 1))) (stop 5)
    ∷ row 6 (answer 4 named (name (id 11 1 110))) (stop 7)
    ∷ row 7 (answer 4 named (name (id 12 1 110))) (0 ∷ [])
    ∷ row 8 (answer 9 fourth (name (id 11 0 5))) (stop 8)
    ∷ row 9 (answer 9 fourth (name (id 11 0 4))) (stop 7)
    ∷ row 10 (answer 9 fourth (name (id 11 1 5))) (0 ∷ [])
    ∷ row 11 (answer 2 named (name (id 11 1 5))) (stop 4)
    ∷ row 12 (answer 4 fourth (name (id 11 0 5))) (stop 8)
    -- 9 and 10
    ∷ row 13 (answer 4 named (resolve (id 12 0 1) (gave 1 [] []))) (stop 9)
    ∷ row 14 (answer 4 named (certify (id 12 1 122))) (stop 9)
    ∷ row 15 (answer 4 named (certify (id 12 1 121))) (0 ∷ [])
    ∷ row 16 (answer 4 (named ++ (resolve (id 12 1 121) (gave 5 [] []) ∷ [])) (resolve (id 12 1 121) (gave 9 [] []))) (stop 10)
    -- 11
    ∷ row 17 (resolved_with (gave 0 [] [])) (stop 11)
    ∷ row 18 (resolved_with (gave 6 [] [])) (stop 11)
    ∷ row 19 (resolved_with (gave 1 (ref 1 5 ∷ ref 0 110 ∷ []) [])) (stop 11)
    ∷ row 20 (resolved_with (gave 1 (ref 0 110 ∷ ref 0 110 ∷ []) [])) (stop 11)
    ∷ row 21 (resolved_with (gave 1 (ref 0 110 ∷ ref 32 5 ∷ []) [])) (stop 11)
    ∷ row 22 (resolved_with (gave 4 (ref 0 110 ∷ []) [])) (stop 11)
    ∷ row 23 (resolved_with (gave 3 (ref 0 110 ∷ []) [])) (0 ∷ [])
    ∷ row 24 (resolved_with (record { status = 5; proof = true; trigger = true; cause = true; top_proof = id 10 31 0; evidence = 0; includes = []; witness = []; payload_len = 0; payload_bytes = 0 })) (0 ∷ [])
    ∷ row 25 (resolved_with (record { status = 5; proof = true; trigger = true; cause = true; top_proof = id 10 32 0; evidence = 0; includes = []; witness = []; payload_len = 0; payload_bytes = 0 })) (stop 11)
    ∷ row 26 (resolved_with (record { status = 5; proof = false; trigger = false; cause = false; top_proof = id 10 0 0; evidence = 1; includes = []; witness = []; payload_len = 0; payload_bytes = 0 })) (stop 11)
    -- 12, after 11; no test below the bottom
    ∷ row 27 (resolved_with (gave 1 (ref 1 5 ∷ []) [])) (stop 12)
    ∷ row 28 (resolved_with (gave 1 (ref 0 110 ∷ []) (ref 1 5 ∷ []))) (stop 12)
    ∷ row 29 (resolved_with (gave 6 (ref 1 5 ∷ []) [])) (stop 11)
    ∷ row 30 (answer 4 named (resolve (id 11 0 110) (gave 1 [] (ref 1 5 ∷ [])))) (0 ∷ [])
    ∷ row 31 (answer 4 (start (begin (conf_of 0 2 5) 0 none) ∷ round 1 3 ∷ name (id 1 0 1) ∷ []) (resolve (id 1 0 1) (gave 1 [] (ref 0 5 ∷ [])))) (stop 11)
    ∷ row 32 (answer 4 (start (begin (conf_of 0 2 5) 0 none) ∷ name (id 0 0 1) ∷ []) (resolve (id 0 0 1) (gave 1 (ref 0 5 ∷ []) []))) (stop 11)
    ∷ []

pointed : agree points ≡ true
unfolding computed numbers same agree Lists.all
pointed = refl

-- ---- commits: two anchors 13 and 15 by peer 0, proofs 14 and 16, trigger 17; 15 includes the point of 14 by peer 1

-- a point with these marks, top proof and includes
abbrev point : ℕ → Bool → Bool → Id → List Ref → Resolution
point s p t top is = record { status = s; proof = p; trigger = t; cause = true; top_proof = top; evidence = 0; includes = is; witness = []; payload_len = 0; payload_bytes = 0 }

-- named and resolved
abbrev both : Id → Resolution → List Call
both i t = name i ∷ resolve i t ∷ []

-- the point of 14 by peer 1 is resolved as told; the trigger too
abbrev two : Bool → Option ℕ → List Call → Resolution → List Call
two gap used side trigger =
    (from 2 10 gap used ∷ rounds 11 7)
    ++ (both (id 13 0 130) (point 1 false false (id 10 0 0) [])
    ++ (both (id 14 0 140) (point 1 true false (id 10 0 0) (ref 0 130 ∷ []))
    ++ (side
    ++ (both (id 15 0 150) (point 1 false false (id 14 0 140) (ref 0 140 ∷ ref 1 141 ∷ []))
    ++ (both (id 16 0 160) (point 1 true false (id 14 0 140) (ref 0 150 ∷ []))
    ++ both (id 17 0 170) trigger)))))

abbrev firing : Resolution
firing = point 1 false true (id 16 0 160) (ref 0 160 ∷ [])

abbrev side : ℕ → List Call
side x = both (id 14 1 141) (point x false false (id 10 0 0) [])

-- the anchors certified
abbrev certs : List Call
certs = certify (id 13 0 130) ∷ certify (id 15 0 150) ∷ []

abbrev on_two : ℕ → Store
on_two x = after (blank 6) (two false (some 0) (side x) firing ++ certs)

-- with lists for both anchors: 13; 15, the two points of 14 the other way round, 13
abbrev fire : Store → ℕ → Outcome
fire s n = call s (commit (id 17 0 170) (0 ∷ 0 ∷ 1 ∷ 0 ∷ 0 ∷ []) (replicate n 0))

-- last proof and last anchor
abbrev lasts : Store → List ℕ
lasts s = or_zero s.progress.last_proof ∷ or_zero s.progress.last_anchor ∷ []

abbrev ended : Outcome → List ℕ
ended o = numbers o.answer ++ lasts o.store

abbrev bytes : Outcome → List ℕ → List ℕ
bytes o is = map (λ i. get_or o.buffer i 99) is

abbrev commits : List Row
commits =
    -- both records: executable, previous anchor, number of points
    row 1 (ended (fire (on_two 1) 526)) (3 ∷ 2 ∷ 16 ∷ 15 ∷ [])
    ∷ row 2 (bytes (fire (on_two 1) 527) (74 ∷ 78 ∷ 82 ∷ 255 ∷ 259 ∷ 263 ∷ 526 ∷ [])) (1 ∷ 0 ∷ 1 ∷ 1 ∷ 13 ∷ 3 ∷ 0 ∷ [])
    -- rounds of the points: 13; 14, 14, 15, in a round as the lists say
    ∷ row 3 (bytes (fire (on_two 1) 526) (86 ∷ 267 ∷ 300 ∷ 304 ∷ 337 ∷ 341 ∷ [])) (13 ∷ 14 ∷ 140 ∷ 14 ∷ 141 ∷ 15 ∷ [])
    -- 21 against the bytes left; the first anchor keeps its record and marks
    ∷ row 4 (ended (fire (on_two 1) 525)) (4 ∷ 21 ∷ 1 ∷ 14 ∷ 13 ∷ [])
    ∷ row 5 (ended (fire (on_two 1) 180)) (4 ∷ 21 ∷ 0 ∷ 0 ∷ 0 ∷ [])
    -- 13 at the later anchor
    ∷ row 6 (ended (fire (on_two 3) 600)) (4 ∷ 13 ∷ 1 ∷ 14 ∷ 13 ∷ [])
    ∷ row 7 (bytes (fire (on_two 3) 600) (82 ∷ 184 ∷ [])) (1 ∷ 0 ∷ [])
    -- a trans-invalid point is usable unless proved
    ∷ row 8 (ended (fire (on_two 2) 600)) (3 ∷ 2 ∷ 16 ∷ 15 ∷ [])
    ∷ row 9 (ended (fire (after (on_two 2) (certify (id 14 1 141) ∷ [])) 600)) (4 ∷ 13 ∷ 1 ∷ 14 ∷ 13 ∷ [])
    -- once the trigger is used up
    ∷ row 10 (ended (fire (fire (on_two 1) 526).store 0)) (3 ∷ 0 ∷ 16 ∷ 15 ∷ [])
    ∷ []

committed : agree commits ≡ true
unfolding computed numbers same agree Lists.all
committed = refl

-- a history conflict comes with its point's round
abbrev round_of : Answer → ℕ
round_of a = elim a [ done ↦ 0 | flag b ↦ 0 | anchors n ↦ 0 | refused r n ↦ or_zero (conflict_round r) ]

-- with the trigger told so, not certified; and certified
abbrev told17 : Resolution → List Call → List ℕ
told17 t cs = numbers (fire (after (blank 6) (two false (some 0) (side 1) t ++ (certs ++ cs))) 600).answer

abbrev trigger : ℕ → List ℕ
trigger x = told17 (point x false true (id 16 0 160) (ref 0 160 ∷ [])) []

abbrev certified17 : ℕ → List ℕ
certified17 x = told17 (point x false true (id 16 0 160) (ref 0 160 ∷ [])) (certify (id 17 0 170) ∷ [])

-- under a certified point of round 18: certified and not proved
abbrev under18 : ℕ → List ℕ
under18 x =
    numbers (fire (after (blank 7) (two false (some 0) (side 1) (point x false true (id 16 0 160) (ref 0 160 ∷ [])) ++ (certs ++ (round 18 3 ∷ (both (id 18 0 180) (gave 1 (ref 0 170 ∷ []) []) ++ (certify (id 18 0 180) ∷ [])))))) 600).answer

abbrev triggers : List Row
triggers =
    -- 14 unresolved, 15, and 18 after them, at the later anchor
    row 1 (ended (fire (after (blank 6) (two false (some 0) (name (id 14 1 141) ∷ []) firing ++ certs)) 600)) (4 ∷ 14 ∷ 1 ∷ 14 ∷ 13 ∷ [])
    ∷ row 2 (ended (fire (after (blank 6) (two false (some 0) (side 3) firing ++ (certify (id 13 0 130) ∷ []))) 600)) (4 ∷ 15 ∷ 1 ∷ 14 ∷ 13 ∷ [])
    ∷ row 3 (ended (fire (after (blank 6) (two false (some 0) (side 1) firing ++ (certify (id 13 0 130) ∷ []))) 600)) (4 ∷ 18 ∷ 1 ∷ 14 ∷ 13 ∷ [])
    ∷ row 4 (round_of (fire (on_two 3) 600).answer ∷ []) (14 ∷ [])
    -- 20, before 21; after the question the first executable anchor has no previous one and uses the flag up
    ∷ row 5 (ended (fire (after (blank 6) (two true (some 0) (side 1) firing ++ certs)) 0)) (4 ∷ 20 ∷ 0 ∷ 0 ∷ 0 ∷ [])
    ∷ row 6 (bytes (fire (after (blank 6) (two true (some 0) (side 1) firing ++ (gap_question ∷ certs))) 526) (74 ∷ 255 ∷ 259 ∷ [])) (0 ∷ 1 ∷ 0 ∷ [])
    -- the trigger: 15, 13, no anchors where `filter` turns it away
    ∷ row 7 (trigger 1) (3 ∷ 2 ∷ [])
    ∷ row 8 (trigger 2) (4 ∷ 15 ∷ 0 ∷ [])
    -- (its links refused with status 5, the trigger stays unresolved)
    ∷ row 9 (trigger 5) (4 ∷ 9 ∷ 0 ∷ [])
    ∷ row 10 (certified17 2) (4 ∷ 13 ∷ 0 ∷ [])
    ∷ row 11 (certified17 3) (4 ∷ 13 ∷ 0 ∷ [])
    ∷ row 12 (under18 2) (3 ∷ 0 ∷ [])
    ∷ row 13 (under18 3) (4 ∷ 13 ∷ 0 ∷ [])
    ∷ row 14 (told17 (point 1 false false (id 16 0 160) (ref 0 160 ∷ [])) []) (3 ∷ 0 ∷ [])
    -- 16: no previous point
    ∷ row 15 (told17 (point 1 false true (id 16 0 160) []) []) (4 ∷ 16 ∷ 0 ∷ [])
    ∷ []

fired : agree triggers ≡ true
unfolding computed numbers same agree Lists.all
fired = refl

-- ---- outlook, the walk's and the history's other refusals

abbrev glimpse : Store → ℕ → Outcome
glimpse s n = call s (outlook (id 17 0 170) (replicate n 0))

-- s with a used mark of a at round r, as made-up tables may have it
abbrev with_used : Store → ℕ → ℕ → Store
with_used s r a = record {
  phase = s.phase;
  places = s.places;
  pt = s.pt;
  heights = s.heights;
  bottom = s.bottom;
  top = s.top;
  rounds = λ x. cond (eqb x r) (record { peers = (s.rounds x).peers; used = some a }) (s.rounds x);
  conf = s.conf;
  progress = s.progress;
  memory = s.memory;
}

-- trigger 12, proof 11, anchor 10 at genesis, whose top proof is below the bottom
abbrev genesis : List Call
genesis =
    twelve ++ (both (id 10 0 100) (point 1 false false (id 9 0 0) []) ++ (both (id 11 0 110) (point 1 true false (id 10 0 0) (ref 0 100 ∷ [])) ++ both (id 12 0 120) (point 1 false true (id 11 0 110) (ref 0 110 ∷ []))))

-- a start at 20, trigger 23, proof 22, anchor 21; a drop to b, below the bottom
abbrev missing : ℕ → List Call
missing b =
    (from 2 20 false none ∷ rounds 21 3)
    ++ (both (id 21 0 210) (point 1 false false (id 10 0 0) []) ++ (both (id 22 0 220) (point 1 true false (id 10 0 0) (ref 0 210 ∷ []))
    ++ (both (id 23 0 230) (point 1 false true (id 22 0 220) (ref 0 220 ∷ [])) ++ (drop_to b ∷ []))))

abbrev others : List Row
others =
    -- 1 point, then 3, the older anchor's committed, with the points of each round; 21 against its own buffer, nothing written; 13, 20 never
    row 1 (ended (glimpse (on_two 1) 106)) (3 ∷ 2 ∷ 0 ∷ 0 ∷ [])
    ∷ row 2 (bytes (glimpse (on_two 1) 107) (3 ∷ 40 ∷ 44 ∷ 48 ∷ 52 ∷ 56 ∷ 93 ∷ 97 ∷ 101 ∷ 105 ∷ 106 ∷ [])) (13 ∷ 1 ∷ 1 ∷ 0 ∷ 0 ∷ 15 ∷ 3 ∷ 1 ∷ 2 ∷ 1 ∷ 0 ∷ [])
    ∷ row 3 (numbers (glimpse (on_two 1) 105).answer ++ bytes (glimpse (on_two 1) 105) (3 ∷ 40 ∷ [])) (4 ∷ 21 ∷ 0 ∷ 0 ∷ 0 ∷ [])
    ∷ row 4 (numbers (glimpse (on_two 3) 106).answer ++ bytes (glimpse (on_two 3) 106) (3 ∷ 40 ∷ [])) (4 ∷ 13 ∷ 0 ∷ 0 ∷ 0 ∷ [])
    ∷ row 5 (numbers (glimpse (after (blank 6) (two true (some 0) (side 1) firing ++ certs)) 106).answer) (3 ∷ 2 ∷ [])
    -- 5, no anchors below the bottom, 6
    ∷ row 6 (numbers (call (on_two 1) (commit (id 9 32 1) [] [])).answer) (stop 5)
    ∷ row 7 (numbers (call (on_two 1) (commit (id 9 2 1) [] [])).answer) (3 ∷ 0 ∷ [])
    ∷ row 8 (numbers (call (on_two 1) (commit (id 18 2 1) [] [])).answer) (stop 6)
    ∷ row 9 (numbers (call (on_two 1) (commit (id 17 2 170) [] [])).answer) (stop 5)
    ∷ row 10 (numbers (call (on_two 1) (commit (id 17 1 170) [] [])).answer) (stop 9)
    -- 16: a used mark of another author; a used mark ends the walk; 19 where it stands above the lowest round
    ∷ row 11 (numbers (fire (after (blank 6) (two false (some 1) (side 1) firing ++ certs)) 600).answer) (stop 16)
    ∷ row 12 (numbers (fire (with_used (on_two 1) 14 0) 600).answer) (stop 19)
    ∷ row 13 (numbers (fire (with_used (on_two 1) 16 0) 600).answer) (3 ∷ 0 ∷ [])
    -- 22; 17 before 18 and 20, at its bound; 18 before 20
    ∷ row 14 (numbers (call (after (blank 6) genesis) (commit (id 12 0 120) [] [])).answer) (stop 22)
    ∷ row 15 (numbers (call (after (blank 6) (missing 10)) (commit (id 23 0 230) [] [])).answer) (stop 17)
    ∷ row 16 (numbers (call (after (blank 6) (missing 17)) (commit (id 23 0 230) [] [])).answer) (stop 17)
    ∷ row 17 (numbers (call (after (blank 6) (missing 18)) (commit (id 23 0 230) [] [])).answer) (stop 18)
    ∷ []

looked : agree others ≡ true
unfolding computed numbers same agree Lists.all
looked = refl

-- ---- place lists (02: N1)

-- K13's points: 11.0.110, 12.0.120 and 12.1.121, anchor 13.0.130, trigger 15.0.150, after a start of round 10; p is done to the resolution
-- of each, by its number from 0
abbrev layers_on : Call → (ℕ → Resolution → Resolution) → List Call
layers_on begins p =
    (begins ∷ rounds 11 5)
    ++ (both (id 11 0 110) (p 0 (gave 1 [] []))
    ++ (both (id 12 0 120) (p 1 (gave 1 (ref 0 110 ∷ []) []))
    ++ (both (id 12 1 121) (p 2 (gave 1 (ref 0 110 ∷ []) []))
    ++ (both (id 13 0 130) (p 3 (gave 1 (ref 0 120 ∷ ref 1 121 ∷ []) []))
    ++ (both (id 14 0 140) (p 4 (point 1 true false (id 10 0 0) (ref 0 130 ∷ [])))
    ++ (both (id 15 0 150) (p 5 (point 1 false true (id 10 0 0) (ref 0 140 ∷ []))) ++ (certify (id 13 0 130) ∷ [])))))))

-- started after a gap or not
abbrev layers_as : (ℕ → Resolution → Resolution) → Bool → List Call
layers_as p gap = layers_on (from 2 10 gap (some 0)) p

abbrev layers : Bool → List Call
layers gap = layers_as (λ k t. t) gap

-- these calls, then the commit of 15.0.150
abbrev commit_on : List Call → List ℕ → ℕ → Outcome
commit_on cs l n = call (after (blank 7) cs) (commit (id 15 0 150) l (replicate n 0))

abbrev layered : List ℕ → ℕ → Outcome
layered l n = commit_on (layers false) l n

-- the last bytes of the digests in a record of k points that begins at byte `at`
abbrev digests : Outcome → ℕ → List ℕ → List ℕ
digests o at ks = map (λ k. get_or o.buffer (at + 119 + k * 37) 99) ks

abbrev four : Outcome → List ℕ
four o = numbers o.answer ++ digests o 0 (0 ∷ 1 ∷ 2 ∷ 3 ∷ [])

-- these points of 11, some of them included by the anchor 12.0.120, trigger 14.0.140
abbrev under12 : List Id → List Ref → Store
under12 ps is = after (blank 6) (
    (start (record { conf = conf 2; bottom = 10; peers = 7; after_gap = false; used = some 0 }) ∷ round 11 7 ∷ round 12 7 ∷ round 13 7 ∷ round 14 7 ∷ [])
    ++ (Lists.joined (λ i. both i (gave 1 [] [])) ps
    ++ (both (id 12 0 120) (gave 1 is [])
    ++ (both (id 13 0 130) (point 1 true false (id 10 0 0) (ref 0 120 ∷ []))
    ++ (both (id 14 0 140) (point 1 false true (id 10 0 0) (ref 0 130 ∷ [])) ++ (certify (id 12 0 120) ∷ []))))))

-- three points of 11 by three peers, not named by rising digest
abbrev three : List Id
three = id 11 0 3 ∷ id 11 1 1 ∷ id 11 2 2 ∷ []

-- all of them included
abbrev triple : List ℕ → Outcome
triple l = call (under12 three (ref 0 3 ∷ ref 1 1 ∷ ref 2 2 ∷ [])) (commit (id 14 0 140) l (replicate 427 0))

-- two anchors 12.0.120 and 14.0.140 in one line of includes from 16.0.160 down to 11.0.110, then these calls; p is done to each resolution
abbrev ladder_on : Call → List Call → (Resolution → Resolution) → List Call
ladder_on begins then p =
    (begins ∷ rounds 11 6)
    ++ (both (id 11 0 110) (p (gave 1 [] []))
    ++ (both (id 12 0 120) (p (point 1 false false (id 10 0 0) (ref 0 110 ∷ [])))
    ++ (both (id 13 0 130) (p (point 1 true false (id 10 0 0) (ref 0 120 ∷ [])))
    ++ (both (id 14 0 140) (p (point 1 false false (id 13 0 130) (ref 0 130 ∷ [])))
    ++ (both (id 15 0 150) (p (point 1 true false (id 10 0 0) (ref 0 140 ∷ []))) ++ (both (id 16 0 160) (p (point 1 false true (id 10 0 0) (ref 0 150 ∷ []))) ++ then))))))

-- both anchors certified
abbrev rungs : List Call
rungs = certify (id 12 0 120) ∷ certify (id 14 0 140) ∷ []

abbrev ladder_calls : (Resolution → Resolution) → List Call
ladder_calls p = ladder_on (from 2 10 false (some 0)) rungs p

abbrev ladder_as : (Resolution → Resolution) → Store
ladder_as p = after (blank 6) (ladder_calls p)

abbrev ladder : Store
ladder = ladder_as (λ t. t)

abbrev climb : Store → List ℕ → Outcome
climb s l = call s (commit (id 16 0 160) l (replicate 526 0))

abbrev glance : Store → ℕ → Outcome
glance s n = call s (outlook (id 16 0 160) (replicate n 0))

-- anchor 13.0.130 over the witness 11.0.110, nothing in 12
abbrev passing : Store
passing = after (blank 6) (
    (from 2 10 false (some 0) ∷ rounds 11 5)
    ++ (both (id 11 0 110) (gave 1 [] [])
    ++ (both (id 13 0 130) (gave 1 [] (ref 0 110 ∷ []))
    ++ (both (id 14 0 140) (point 1 true false (id 10 0 0) (ref 0 130 ∷ []))
    ++ (both (id 15 0 150) (point 1 false true (id 10 0 0) (ref 0 140 ∷ [])) ++ (certify (id 13 0 130) ∷ []))))))

-- H 4, a start at 15, anchor 16: the bottom is above the limit
abbrev shallow : Store
shallow = after (blank 6) (
    (from 4 15 false none ∷ rounds 16 3)
    ++ (both (id 16 0 160) (gave 1 [] [])
    ++ (both (id 17 0 170) (point 1 true false (id 10 0 0) (ref 0 160 ∷ []))
    ++ (both (id 18 0 180) (point 1 false true (id 10 0 0) (ref 0 170 ∷ [])) ++ (certify (id 16 0 160) ∷ [])))))

abbrev lists : List Row
lists =
    -- the points of 12 in the reverse of their list; further bytes are unread; 21 against right lists
    row 1 (four (layered (0 ∷ 0 ∷ 1 ∷ 0 ∷ []) 427)) (3 ∷ 1 ∷ 110 ∷ 121 ∷ 120 ∷ 130 ∷ [])
    ∷ row 2 (four (layered (0 ∷ 1 ∷ 0 ∷ 0 ∷ []) 427)) (3 ∷ 1 ∷ 110 ∷ 120 ∷ 121 ∷ 130 ∷ [])
    ∷ row 3 (four (layered (0 ∷ 1 ∷ 0 ∷ 0 ∷ 255 ∷ 255 ∷ []) 427)) (3 ∷ 1 ∷ 110 ∷ 120 ∷ 121 ∷ 130 ∷ [])
    ∷ row 4 (numbers (layered (0 ∷ 1 ∷ 0 ∷ 0 ∷ []) 426).answer ++ bytes (layered (0 ∷ 1 ∷ 0 ∷ 0 ∷ []) 426) (3 ∷ 82 ∷ 119 ∷ [])) (4 ∷ 21 ∷ 0 ∷ 0 ∷ 0 ∷ 0 ∷ [])
    -- 24: a place twice, one not below the count, another's list, too few, none; before 21, with nothing written
    ∷ row 5 (four (layered (0 ∷ 0 ∷ 0 ∷ 0 ∷ []) 427)) (4 ∷ 24 ∷ 0 ∷ 0 ∷ 0 ∷ 0 ∷ 0 ∷ [])
    ∷ row 6 (numbers (layered (0 ∷ 2 ∷ 0 ∷ 0 ∷ []) 427).answer) (stop 24)
    ∷ row 7 (numbers (layered (1 ∷ 1 ∷ 0 ∷ 0 ∷ []) 427).answer) (stop 24)
    ∷ row 8 (numbers (layered (0 ∷ 0 ∷ 1 ∷ []) 427).answer) (stop 24)
    ∷ row 9 (ended (layered [] 427)) (4 ∷ 24 ∷ 0 ∷ 0 ∷ 0 ∷ [])
    ∷ row 10 (numbers (layered [] 0).answer) (stop 24)
    ∷ row 11 (numbers (layered (0 ∷ 0 ∷ 1 ∷ 0 ∷ []) 0).answer) (stop 21)
    -- the outlook: 4 points, then the counts of 13, 12, 11; a byte short
    ∷ row 12 (bytes (call (after (blank 6) (layers false)) (outlook (id 15 0 150) (replicate 53 0))) (3 ∷ 40 ∷ 44 ∷ 48 ∷ 52 ∷ [])) (13 ∷ 4 ∷ 1 ∷ 2 ∷ 1 ∷ [])
    ∷ row 13 (numbers (call (after (blank 6) (layers false)) (outlook (id 15 0 150) (replicate 52 0))).answer) (stop 21)
    -- 20 before 24
    ∷ row 14 (numbers (call (after (blank 6) (layers true)) (commit (id 15 0 150) [] [])).answer) (stop 20)
    ∷ row 15 (numbers (call (after (blank 6) (layers true ++ (gap_question ∷ []))) (commit (id 15 0 150) [] [])).answer) (stop 24)
    -- three points 1, 2, 3: a byte says who stands there, not where that one went
    ∷ row 16 (four (triple (0 ∷ 1 ∷ 2 ∷ 0 ∷ []))) (3 ∷ 1 ∷ 1 ∷ 3 ∷ 2 ∷ 120 ∷ [])
    ∷ row 17 (four (triple (0 ∷ 2 ∷ 0 ∷ 1 ∷ []))) (3 ∷ 1 ∷ 2 ∷ 1 ∷ 3 ∷ 120 ∷ [])
    ∷ row 18 (four (triple (0 ∷ 0 ∷ 1 ∷ 2 ∷ []))) (3 ∷ 1 ∷ 3 ∷ 2 ∷ 1 ∷ 120 ∷ [])
    -- two anchors, their lists end to end: 2 points and the counts of 12, 11; 2 points and those of 14, 13, 12
    ∷ row 19 (numbers (glance ladder 102).answer ++ bytes (glance ladder 102) (3 ∷ 40 ∷ 44 ∷ 48 ∷ 52 ∷ 89 ∷ 93 ∷ 97 ∷ 101 ∷ [])) (3 ∷ 2 ∷ 12 ∷ 2 ∷ 1 ∷ 1 ∷ 14 ∷ 2 ∷ 1 ∷ 1 ∷ 1 ∷ [])
    ∷ row 20 (numbers (glance ladder 101).answer) (stop 21)
    -- the point of 12 is needed again, and committed by then: not handed out twice
    ∷ row 21 (numbers (climb ladder (replicate 5 0)).answer ++ (digests (climb ladder (replicate 5 0)) 0 (0 ∷ 1 ∷ []) ++ digests (climb ladder (replicate 5 0)) 263 (0 ∷ 1 ∷ []))) (3 ∷ 2 ∷ 110 ∷ 120 ∷ 130 ∷ 140 ∷ [])
    -- lists of the first anchor only: 24 with 1 finished; then its outlook, and the second one's lists
    ∷ row 22 (ended (climb ladder (0 ∷ 0 ∷ []))) (4 ∷ 24 ∷ 1 ∷ 13 ∷ 12 ∷ [])
    ∷ row 23 (bytes (glance (climb ladder (0 ∷ 0 ∷ [])).store 53) (3 ∷ 40 ∷ 44 ∷ 48 ∷ 52 ∷ [])) (14 ∷ 2 ∷ 1 ∷ 1 ∷ 1 ∷ [])
    ∷ row 24 (numbers (climb (climb ladder (0 ∷ 0 ∷ [])).store (0 ∷ 0 ∷ 0 ∷ [])).answer ++ digests (climb (climb ladder (0 ∷ 0 ∷ [])).store (0 ∷ 0 ∷ 0 ∷ [])) 0 (0 ∷ 1 ∷ [])) (3 ∷ 1 ∷ 130 ∷ 140 ∷ [])
    ∷ row 25 (ended (climb ladder (0 ∷ 0 ∷ 1 ∷ 0 ∷ 0 ∷ []))) (4 ∷ 24 ∷ 1 ∷ 13 ∷ 12 ∷ [])
    -- a round without needed points has no byte; the lowest round is the bottom where that is above the limit
    ∷ row 26 (bytes (call passing (outlook (id 15 0 150) (replicate 53 9))) (40 ∷ 44 ∷ 48 ∷ 52 ∷ [])) (2 ∷ 1 ∷ 0 ∷ 1 ∷ [])
    ∷ row 27 (numbers (call passing (commit (id 15 0 150) (0 ∷ 0 ∷ []) (replicate 263 0))).answer) (3 ∷ 1 ∷ [])
    ∷ row 28 (numbers (call passing (commit (id 15 0 150) (0 ∷ []) (replicate 263 0))).answer) (stop 24)
    ∷ row 29 (bytes (call shallow (outlook (id 18 0 180) (replicate 50 9))) (40 ∷ 44 ∷ 48 ∷ 49 ∷ [])) (1 ∷ 1 ∷ 0 ∷ 9 ∷ [])
    ∷ row 30 (numbers (call shallow (commit (id 18 0 180) (0 ∷ []) (replicate 181 0))).answer) (3 ∷ 1 ∷ [])
    ∷ []

listed : agree lists ≡ true
unfolding computed numbers same agree Lists.all
listed = refl

-- ---- outlooks of several anchors (02: N6)

-- the ladder with another H, after a gap or not, then these calls
abbrev ladder_of : ℕ → Bool → List Call → Store
ladder_of h gap then = after (blank 6) (ladder_on (from h 10 gap (some 0)) then (λ t. t))

-- H 4, so that the younger anchor's rounds hold all of the older one's points
abbrev deep : Bool → List Call → Store
deep gap then = ladder_of 4 gap (certify (id 14 0 140) ∷ then)

-- with 12.1.121 over the point of 11, and 13.1.131 over both points of 12, which the younger anchor includes too
abbrev broad : Store
broad = after (blank 8) (
    (from 4 10 false (some 0) ∷ rounds 11 6)
    ++ (both (id 11 0 110) (gave 1 [] [])
    ++ (both (id 12 0 120) (point 1 false false (id 10 0 0) (ref 0 110 ∷ []))
    ++ (both (id 12 1 121) (gave 1 (ref 0 110 ∷ []) [])
    ++ (both (id 13 0 130) (point 1 true false (id 10 0 0) (ref 0 120 ∷ []))
    ++ (both (id 13 1 131) (gave 1 (ref 0 120 ∷ ref 1 121 ∷ []) [])
    ++ (both (id 14 0 140) (point 1 false false (id 13 0 130) (ref 0 130 ∷ ref 1 131 ∷ []))
    ++ (both (id 15 0 150) (point 1 true false (id 10 0 0) (ref 0 140 ∷ [])) ++ (both (id 16 0 160) (point 1 false true (id 10 0 0) (ref 0 150 ∷ [])) ++ (certify (id 14 0 140) ∷ []))))))))))

-- the round, the number of points and the counts of the older anchor, whose record has 49 bytes, then of the younger
abbrev numbers_of : Store → ℕ → List ℕ
numbers_of s n = numbers (glance s n).answer ++ bytes (glance s n) (3 ∷ 40 ∷ 44 ∷ 48 ∷ 52 ∷ 89 ∷ 93 ∷ 97 ∷ 101 ∷ 105 ∷ [])

-- the answer, and the number of points of each of two records
abbrev handed_out : Outcome → ℕ → List ℕ
handed_out o at = numbers o.answer ++ bytes o (82 ∷ (at + 82) ∷ [])

abbrev outlooks : List Row
outlooks =
    -- 2 points each; in 11 nothing is linked by an uncommitted point any more. A byte short, and short of the first: nothing written
    row 1 (numbers_of (deep false []) 106) (3 ∷ 2 ∷ 12 ∷ 2 ∷ 1 ∷ 1 ∷ 14 ∷ 2 ∷ 1 ∷ 1 ∷ 1 ∷ 0 ∷ [])
    ∷ row 2 (numbers (glance (deep false []) 105).answer ++ bytes (glance (deep false []) 105) (3 ∷ 40 ∷ 89 ∷ [])) (4 ∷ 21 ∷ 0 ∷ 0 ∷ 0 ∷ 0 ∷ [])
    ∷ row 3 (numbers (glance (deep false []) 48).answer ++ bytes (glance (deep false []) 48) (3 ∷ 40 ∷ [])) (4 ∷ 21 ∷ 0 ∷ 0 ∷ 0 ∷ [])
    -- the commit, with lists of just these lengths, and no anchors after it
    ∷ row 4 (handed_out (climb (deep false []) (replicate 5 0)) 263) (3 ∷ 2 ∷ 2 ∷ 2 ∷ [])
    ∷ row 5 (numbers (climb (deep false []) (replicate 4 0)).answer) (4 ∷ 24 ∷ 1 ∷ [])
    ∷ row 6 (numbers (glance (climb (deep false []) (replicate 5 0)).store 106).answer) (3 ∷ 0 ∷ [])
    -- after a gap the same numbers, before the question, which the commit asks for, and after it
    ∷ row 7 (numbers_of (deep true []) 106) (numbers_of (deep false []) 106)
    ∷ row 8 (numbers (climb (deep true []) (replicate 5 0)).answer) (stop 20)
    ∷ row 9 (numbers_of (deep true (gap_question ∷ [])) 106) (numbers_of (deep false []) 106)
    ∷ row 10 (handed_out (climb (deep true (gap_question ∷ [])) (replicate 5 0)) 263) (3 ∷ 2 ∷ 2 ∷ 2 ∷ [])
    -- the younger anchor is refused: 18, with nothing written of the older; the commit has finished that
    ∷ row 11 (numbers (glance (ladder_of 4 false (certify (id 12 0 120) ∷ [])) 106).answer ++ bytes (glance (ladder_of 4 false (certify (id 12 0 120) ∷ [])) 106) (3 ∷ 40 ∷ [])) (4 ∷ 18 ∷ 0 ∷ 0 ∷ 0 ∷ [])
    ∷ row 12 (numbers (climb (ladder_of 4 false (certify (id 12 0 120) ∷ [])) (replicate 5 0)).answer) (4 ∷ 18 ∷ 1 ∷ [])
    -- histories that don't overlap
    ∷ row 13 (numbers (glance (ladder_of 1 false rungs) 98).answer ++ bytes (glance (ladder_of 1 false rungs) 98) (3 ∷ 40 ∷ 44 ∷ 48 ∷ 52 ∷ 89 ∷ 93 ∷ 97 ∷ [])) (3 ∷ 2 ∷ 12 ∷ 2 ∷ 1 ∷ 1 ∷ 14 ∷ 2 ∷ 1 ∷ 1 ∷ [])
    -- points of the older history that a new one links to are linked, committed by then
    ∷ row 14 (numbers_of broad 106) (3 ∷ 2 ∷ 12 ∷ 2 ∷ 1 ∷ 1 ∷ 14 ∷ 4 ∷ 1 ∷ 2 ∷ 2 ∷ 1 ∷ [])
    ∷ []

outlooks-agree : agree outlooks ≡ true
unfolding computed numbers same agree Lists.all
outlooks-agree = refl

-- ---- picks (02: N4)

-- the digests of k picks in round r for the anchor at place a
abbrev picked_in : Store → ℕ → ℕ → ℕ → List ℕ
picked_in s a r k = map (λ q. (id_at s q).digest) (picks s a r k)

-- anchor 13.0.5 over 12.0.4 and 12.1.2, which include 11.0.3 and 11.1.1
abbrev interleaved : Store
interleaved = after (blank 5) (
    (from 2 10 false (some 0) ∷ rounds 11 3)
    ++ (both (id 11 0 3) (gave 1 [] [])
    ++ (both (id 11 1 1) (gave 1 [] [])
    ++ (both (id 12 0 4) (gave 1 (ref 0 3 ∷ []) [])
    ++ (both (id 12 1 2) (gave 1 (ref 1 1 ∷ []) []) ++ both (id 13 0 5) (gave 1 (ref 0 4 ∷ ref 1 2 ∷ []) []))))))

abbrev picked : List Row
picked =
    -- one needed point: one pick, then none; none at once in a round without needed points
    row 1 (picked_in passing 1 11 1 ++ picked_in passing 1 11 2) (110 ∷ 110 ∷ [])
    ∷ row 2 (picked_in passing 1 12 1) []
    -- 2 is named in the round and linked by nobody
    ∷ row 3 (picked_in (under12 three (ref 0 3 ∷ ref 1 1 ∷ [])) 3 11 3) (1 ∷ 3 ∷ [])
    -- by rising digest, in whatever order they were named: their places, their digests
    ∷ row 4 (picks (under12 three (ref 0 3 ∷ ref 1 1 ∷ ref 2 2 ∷ [])) 3 11 3) (1 ∷ 2 ∷ 0 ∷ [])
    ∷ row 5 (picked_in (under12 three (ref 0 3 ∷ ref 1 1 ∷ ref 2 2 ∷ [])) 3 11 3) (1 ∷ 2 ∷ 3 ∷ [])
    ∷ row 6 (picked_in (under12 (id 11 1 1 ∷ id 11 2 2 ∷ id 11 0 3 ∷ []) (ref 0 3 ∷ ref 1 1 ∷ ref 2 2 ∷ [])) 3 11 3) (1 ∷ 2 ∷ 3 ∷ [])
    -- rounds whose digests interleave: each is picked alone
    ∷ row 7 (picked_in interleaved 4 13 3) (5 ∷ [])
    ∷ row 8 (picked_in interleaved 4 12 3) (2 ∷ 4 ∷ [])
    ∷ row 9 (picked_in interleaved 4 11 3) (1 ∷ 3 ∷ [])
    ∷ []

picks_agree : agree picked ≡ true
unfolding computed numbers same agree Lists.all
picks_agree = refl

-- ---- payload sums (02: N2)

-- t with these payloads
abbrev carrying : ℕ → ℕ → Resolution → Resolution
carrying len size t = record {
  status = t.status;
  proof = t.proof;
  trigger = t.trigger;
  cause = t.cause;
  top_proof = t.top_proof;
  evidence = t.evidence;
  includes = t.includes;
  witness = t.witness;
  payload_len = len;
  payload_bytes = size;
}

-- K13's points with other payloads each; 14 and 15 are in no history
abbrev loads : List Call
loads = layers_as (λ k t. carrying (suc k) (get_or (10 ∷ 200 ∷ 3000 ∷ 40000 ∷ 5 ∷ 6 ∷ []) k 0) t) false

-- with the same for all
abbrev alike : ℕ → List Call
alike n = layers_as (λ k t. carrying n n t) false

-- the points of 12 in the reverse of their digests
abbrev reversed : List Call → ℕ → Outcome
reversed cs n = commit_on cs (0 ∷ 0 ∷ 1 ∷ 0 ∷ []) n

-- the two numbers from byte `at` on
abbrev sums : Outcome → ℕ → List ℕ
sums o at = value 0 (take 8 (drop at o.buffer)) ∷ value 0 (take 8 (drop (at + 8) o.buffer)) ∷ []

-- a point's second resolution, with other payloads
abbrev again : Call
again = resolve (id 11 0 110) (carrying 7 7 (gave 1 [] []))

-- an ill-formed point with payloads
abbrev spoilt : Call
spoilt = resolve (id 14 1 141) (carrying 7 7 (gave 4 [] []))

abbrev payloads : List Row
payloads =
    -- 10 and 43,210 are the last 16 of 427 bytes; with 426: 21
    row 1 (numbers (reversed loads 427).answer ++ drop 411 (reversed loads 427).buffer)
    (3 ∷ 1 ∷ 0 ∷ 0 ∷ 0 ∷ 0 ∷ 0 ∷ 0 ∷ 0 ∷ 10 ∷ 0 ∷ 0 ∷ 0 ∷ 0 ∷ 0 ∷ 0 ∷ 168 ∷ 202 ∷ [])
    ∷ row 2 (numbers (reversed loads 426).answer) (stop 21)
    -- another order, the same sums
    ∷ row 3 (four (reversed loads 427) ++ sums (reversed loads 427) 411) (3 ∷ 1 ∷ 110 ∷ 121 ∷ 120 ∷ 130 ∷ 10 ∷ 43210 ∷ [])
    ∷ row 4 (four (commit_on loads (0 ∷ 1 ∷ 0 ∷ 0 ∷ []) 427) ++ sums (commit_on loads (0 ∷ 1 ∷ 0 ∷ 0 ∷ []) 427) 411) (3 ∷ 1 ∷ 110 ∷ 120 ∷ 121 ∷ 130 ∷ 10 ∷ 43210 ∷ [])
    -- the largest and the least numbers
    ∷ row 5 (sums (reversed (alike 4294967295) 427) 411) (17179869180 ∷ 17179869180 ∷ [])
    ∷ row 6 (sums (reversed (alike 0) 427) 411) (0 ∷ 0 ∷ [])
    -- the point of 12 is needed again, and committed by then: it isn't in the second sums
    ∷ row 7 (sums (climb (ladder_as (carrying 1 3)) (replicate 5 0)) 247 ++ sums (climb (ladder_as (carrying 1 3)) (replicate 5 0)) 510) (2 ∷ 6 ∷ 2 ∷ 6 ∷ [])
    -- a second resolution is refused by 10, and the first one's numbers stay
    ∷ row 8 (answer 7 loads again ++ sums (reversed (loads ++ (again ∷ [])) 427) 411) (4 ∷ 10 ∷ 0 ∷ 10 ∷ 43210 ∷ [])
    -- status 4 with payloads: taken, in no sum
    ∷ row 9 (answer 7 (loads ++ (name (id 14 1 141) ∷ [])) spoilt ++ sums (reversed (loads ++ (name (id 14 1 141) ∷ spoilt ∷ [])) 427) 411) (0 ∷ 10 ∷ 43210 ∷ [])
    -- the outlook has none: 53 bytes as before
    ∷ row 10 (bytes (call (after (blank 6) loads) (outlook (id 15 0 150) (replicate 54 9))) (3 ∷ 40 ∷ 44 ∷ 48 ∷ 52 ∷ 53 ∷ [])) (13 ∷ 4 ∷ 1 ∷ 2 ∷ 1 ∷ 9 ∷ [])
    ∷ []

summed_up : agree payloads ≡ true
unfolding computed numbers same agree Lists.all
summed_up = refl

-- ---- the link behind each point (02: N7)

-- H 4, the points of 11 under both of 12, and the anchor 13.0.131 over these, with this witness
abbrev web_on : List Ref → List Ref → ℕ → List Call → Store
web_on is ws x more = after (blank 8) (
    (from 4 10 false (some 0) ∷ rounds 11 5)
    ++ (both (id 11 0 111) (gave 1 [] [])
    ++ (both (id 11 1 112) (gave 1 [] [])
    ++ (both (id 12 0 121) (gave 1 (ref 0 111 ∷ ref 1 112 ∷ []) [])
    ++ (both (id 12 1 122) (gave x (ref 0 111 ∷ ref 1 112 ∷ []) [])
    ++ (both (id 13 0 131) (gave 1 is ws)
    ++ (both (id 14 0 140) (point 1 true false (id 10 0 0) (ref 0 131 ∷ []))
    ++ (both (id 15 0 150) (point 1 false true (id 10 0 0) (ref 0 140 ∷ [])) ++ (certify (id 13 0 131) ∷ more)))))))))

abbrev web : Store
web = web_on (ref 0 121 ∷ ref 1 122 ∷ []) (ref 1 112 ∷ []) 1 []

abbrev weave : Store → List ℕ → ℕ → Outcome
weave s l n = call s (commit (id 15 0 150) l (replicate n 0))

-- of the entry at byte b: the told point's round, the last byte of its digest, the first letter of the word
abbrev entry : Outcome → ℕ → List ℕ
entry o b = bytes o ((b + 3) ∷ (b + 36) ∷ (b + 37) ∷ [])

-- of a record of n points that begins at byte `at`: the first k entries
abbrev entries : Outcome → ℕ → ℕ → List ℕ → List ℕ
entries o at n ks = Lists.joined (λ k. entry o (at + 83 + n * 37 + k * 45)) ks

abbrev links : List Row
links =
    -- 11.0.111 by 12.0.121, of the lower digest; 11.1.112 by the witness of 13; 12.0.121 and 12.1.122 by 13; the anchor
    row 1 (numbers (weave web (0 ∷ 1 ∷ 0 ∷ 1 ∷ 0 ∷ []) 509).answer ++ entries (weave web (0 ∷ 1 ∷ 0 ∷ 1 ∷ 0 ∷ []) 509) 0 5 (0 ∷ 1 ∷ 2 ∷ 3 ∷ 4 ∷ []))
    (3 ∷ 1 ∷ 12 ∷ 121 ∷ 105 ∷ 13 ∷ 131 ∷ 119 ∷ 13 ∷ 131 ∷ 105 ∷ 13 ∷ 131 ∷ 105 ∷ 13 ∷ 131 ∷ 97 ∷ [])
    -- the words, whole: of the first entry, of the second, of the last
    ∷ row 2 (take 8 (drop 305 (weave web (0 ∷ 1 ∷ 0 ∷ 1 ∷ 0 ∷ []) 509).buffer)) (105 ∷ 110 ∷ 99 ∷ 108 ∷ 117 ∷ 100 ∷ 101 ∷ 115 ∷ [])
    ∷ row 3 (take 8 (drop 350 (weave web (0 ∷ 1 ∷ 0 ∷ 1 ∷ 0 ∷ []) 509).buffer)) (119 ∷ 105 ∷ 116 ∷ 110 ∷ 101 ∷ 115 ∷ 115 ∷ 0 ∷ [])
    ∷ row 4 (take 8 (drop 485 (weave web (0 ∷ 1 ∷ 0 ∷ 1 ∷ 0 ∷ []) 509).buffer)) (97 ∷ 110 ∷ 99 ∷ 104 ∷ 111 ∷ 114 ∷ 0 ∷ 0 ∷ [])
    -- without the witness 11.1.112 too by 12.0.121
    ∷ row 5 (entries (weave (web_on (ref 0 121 ∷ ref 1 122 ∷ []) [] 1 []) (0 ∷ 1 ∷ 0 ∷ 1 ∷ 0 ∷ []) 509) 0 5 (1 ∷ [])) (12 ∷ 121 ∷ 105 ∷ [])
    -- in the lists' order: 11.1.112 first, 12.1.122 before 12.0.121
    ∷ row 6 (entries (weave web (0 ∷ 0 ∷ 1 ∷ 0 ∷ 1 ∷ []) 509) 0 5 (0 ∷ 1 ∷ 4 ∷ [])) (13 ∷ 131 ∷ 119 ∷ 12 ∷ 121 ∷ 105 ∷ 13 ∷ 131 ∷ 97 ∷ [])
    -- a byte short: 21, nothing written
    ∷ row 7 (numbers (weave web (0 ∷ 1 ∷ 0 ∷ 1 ∷ 0 ∷ []) 508).answer ++ bytes (weave web (0 ∷ 1 ∷ 0 ∷ 1 ∷ 0 ∷ []) 508) (3 ∷ 82 ∷ [])) (4 ∷ 21 ∷ 0 ∷ 0 ∷ 0 ∷ [])
    -- only 12.1.122 included: four points, 11.0.111 by it
    ∷ row 8 (entries (weave (web_on (ref 1 122 ∷ []) (ref 1 112 ∷ []) 1 []) (0 ∷ 0 ∷ 1 ∷ 0 ∷ []) 427) 0 4 (0 ∷ 1 ∷ 2 ∷ [])) (12 ∷ 122 ∷ 105 ∷ 13 ∷ 131 ∷ 119 ∷ 13 ∷ 131 ∷ 105 ∷ [])
    -- a trans-invalid point is told like the others
    ∷ row 9 (entries (weave (web_on (ref 1 122 ∷ []) (ref 1 112 ∷ []) 2 []) (0 ∷ 0 ∷ 1 ∷ 0 ∷ []) 427) 0 4 (0 ∷ [])) (12 ∷ 122 ∷ 105 ∷ [])
    -- two records of two points: a point of the first, to which one of the second links, stands in the first only
    ∷ row 10 (entries (climb (deep false []) (replicate 5 0)) 0 2 (0 ∷ 1 ∷ []) ++ entries (climb (deep false []) (replicate 5 0)) 263 2 (0 ∷ 1 ∷ [])) (12 ∷ 120 ∷ 105 ∷ 12 ∷ 120 ∷ 97 ∷ 14 ∷ 140 ∷ 105 ∷ 14 ∷ 140 ∷ 97 ∷ [])
    -- a link over two rounds, nothing between
    ∷ row 11 (entries (call passing (commit (id 15 0 150) (0 ∷ 0 ∷ []) (replicate 263 0))) 0 2 (0 ∷ 1 ∷ [])) (13 ∷ 130 ∷ 119 ∷ 13 ∷ 130 ∷ 97 ∷ [])
    ∷ []

linked_up : agree links ≡ true
unfolding computed numbers same agree Lists.all
linked_up = refl

-- ---- the look-up (02: N3)

-- of i after these calls: never named, named only, resolved; the last two with the place
abbrev sought : List Call → Id → List ℕ
sought cs i = elim (look (after (blank 7) cs) i) [ never ↦ 0 ∷ [] | named_at q ↦ 1 ∷ q ∷ [] | resolved_at q ↦ 2 ∷ q ∷ [] ]

abbrev look_ups : List Row
look_ups =
    -- beside K13's points: certified it is named only, until it is resolved
    row 1 (sought (layers false) (id 12 1 122)) (0 ∷ [])
    ∷ row 2 (sought (layers false ++ (name (id 12 1 122) ∷ [])) (id 12 1 122)) (1 ∷ 6 ∷ [])
    ∷ row 3 (sought (layers false ++ (name (id 12 1 122) ∷ certify (id 12 1 122) ∷ [])) (id 12 1 122)) (1 ∷ 6 ∷ [])
    ∷ row 4 (sought (layers false ++ both (id 12 1 122) (gave 1 [] [])) (id 12 1 122)) (2 ∷ 6 ∷ [])
    -- neither a top proof nor a refused name names a point
    ∷ row 5 (sought (layers false) (id 10 0 0)) (0 ∷ [])
    ∷ row 6 (sought (layers false ++ (name (id 12 2 122) ∷ [])) (id 12 2 122)) (0 ∷ [])
    -- a point leaves with its round; a reset forgets names
    ∷ row 7 (sought (layers false) (id 11 0 110) ++ sought (layers false ++ (drop_to 12 ∷ [])) (id 11 0 110)) (2 ∷ 0 ∷ 0 ∷ [])
    ∷ row 8 (sought (layers false ++ (name (id 12 1 122) ∷ reset_all ∷ layers false)) (id 12 1 122)) (0 ∷ [])
    ∷ []

answered : agree look_ups ≡ true
unfolding computed numbers same agree Lists.all
answered = refl

abbrev proven_by : Id → Resolution → Resolution
proven_by i t = record {
  status = t.status;
  proof = t.proof;
  trigger = t.trigger;
  cause = t.cause;
  top_proof = i;
  evidence = t.evidence;
  includes = t.includes;
  witness = t.witness;
  payload_len = t.payload_len;
  payload_bytes = t.payload_bytes;
}

-- K13 with another top proof of its anchor, with or without a used mark at 10
abbrev seeking : Option ℕ → Id → List Call
seeking used i = layers_on (from 2 10 false used) (λ k t. cond (eqb k 3) (proven_by i t) t)

-- all calls but the one of this number from 0
abbrev without : ℕ → List Call → List Call
without k cs = take k cs ++ drop (suc k) cs

-- the answers of the outlook and of the commit
abbrev both_say : List Call → List ℕ
both_say cs = numbers (call (after (blank 7) cs) (outlook (id 15 0 150) (replicate 53 0))).answer ++ numbers (commit_on cs (0 ∷ 0 ∷ 1 ∷ 0 ∷ []) 427).answer

abbrev twice : ℕ → List ℕ
twice n = stop n ++ stop n

-- the sought proofs
abbrev ten : Id
ten = id 10 0 0

abbrev eleven : Id
eleven = id 11 0 111

abbrev needed_points : List Row
needed_points =
    -- no used mark at 10: the anchor's top proof is looked up there. Never named; named only, certified too; resolved, without a previous point
    row 1 (both_say (seeking none ten)) (twice 25)
    ∷ row 2 (both_say (seeking none ten ++ (name ten ∷ []))) (twice 14)
    ∷ row 3 (both_say (seeking none ten ++ (name ten ∷ certify ten ∷ []))) (twice 14)
    ∷ row 4 (both_say (seeking none ten ++ both ten (point 1 true false no_id []))) (twice 16)
    -- with a used mark it isn't looked up
    ∷ row 5 (both_say (seeking (some 0) ten)) (3 ∷ 1 ∷ 3 ∷ 1 ∷ [])
    -- in a round above the used one: never named, named only, not marked as proof
    ∷ row 6 (both_say (seeking (some 0) eleven)) (twice 25)
    ∷ row 7 (both_say (seeking (some 0) eleven ++ (name eleven ∷ []))) (twice 14)
    ∷ row 8 (both_say (seeking (some 0) eleven ++ both eleven (gave 1 [] []))) (twice 16)
    -- the anchor's proof, and a point of the history, named only
    ∷ row 9 (both_say (without 15 (layers false))) (twice 14)
    ∷ row 10 (both_say (without 7 (layers false))) (twice 14)
    -- below the bottom nothing is looked up
    ∷ row 11 (both_say (seeking none (id 9 0 9))) (3 ∷ 1 ∷ 3 ∷ 1 ∷ [])
    -- nor in a drained round (the drop leaves a gap: 20); in the new bottom it is; names below it are refused by 6
    ∷ row 12 (both_say (seeking (some 0) ten ++ (drop_to 12 ∷ []))) (3 ∷ 1 ∷ 4 ∷ 20 ∷ 0 ∷ [])
    ∷ row 13 (both_say (seeking (some 0) (id 12 0 129) ++ (drop_to 12 ∷ []))) (twice 25)
    ∷ row 14 (answer 7 (layers false ++ (drop_to 12 ∷ [])) (name eleven)) (stop 6)
    -- a reset forgets names
    ∷ row 15 (both_say (seeking (some 0) eleven ++ (name eleven ∷ reset_all ∷ seeking (some 0) eleven))) (twice 25)
    -- 9: a trigger that isn't named or isn't resolved; resolve and certify of an id that isn't named
    ∷ row 16 (answer 7 (layers false) (commit (id 15 1 151) [] [])) (stop 9)
    ∷ row 17 (answer 7 (layers false ++ (name (id 15 1 151) ∷ [])) (commit (id 15 1 151) [] [])) (stop 9)
    ∷ row 18 (answer 7 (layers false) (certify (id 12 1 122)) ++ answer 7 (layers false) (resolve (id 12 1 122) (gave 1 [] []))) (twice 9)
    -- the walk comes first: no anchor is finished
    ∷ row 19 (ended (climb (after (blank 6) (without 12 (ladder_calls (λ t. t)))) (replicate 5 0))) (4 ∷ 14 ∷ 0 ∷ 0 ∷ 0 ∷ [])
    ∷ []

needed_points_lem : agree needed_points ≡ true
unfolding computed numbers same agree Lists.all
needed_points_lem = refl

-- ---- heights over witness links, flags

-- the certificate words of a store's first places
abbrev words : Store → List ℕ → List ℕ
words s qs = map (λ q. word (s.pt q).flags (s.heights q)) qs

-- 12 is witnessed by 14, which includes 13; certified before it is resolved
abbrev witnessed : List Call
witnessed =
    (from 2 10 false (some 0) ∷ rounds 11 4)
    ++ (both (id 12 0 120) (gave 1 [] []) ++ (both (id 13 0 130) (gave 5 [] []) ++ (name (id 14 0 140) ∷ certify (id 14 0 140) ∷ [])))

abbrev certificates : List Row
certificates =
    row 1 (words (after (blank 3) witnessed) (0 ∷ 1 ∷ 2 ∷ [])) (0x6000 ∷ 0 ∷ 0x8003 ∷ [])
    ∷ row 2 (words (after (blank 3) (witnessed ++ (resolve (id 14 0 140) (gave 3 (ref 0 130 ∷ []) (ref 0 120 ∷ [])) ∷ []))) (0 ∷ 1 ∷ 2 ∷ [])) (0x6001 ∷ 2 ∷ 0xe003 ∷ [])
    -- a second certificate changes nothing
    ∷ row 3 (words (after (blank 3) (witnessed ++ (certify (id 14 0 140) ∷ []))) (0 ∷ 1 ∷ 2 ∷ [])) (0x6000 ∷ 0 ∷ 0x8003 ∷ [])
    -- a committed point has its bit
    ∷ row 4 (words (fire (on_two 1) 526).store (0 ∷ 2 ∷ 3 ∷ 4 ∷ [])) (0xf003 ∷ 0x7002 ∷ 0xf003 ∷ 0x6000 ∷ [])
    ∷ []

certs-agree : agree certificates ≡ true
unfolding computed numbers same agree Lists.all
certs-agree = refl

-- ---- remove

-- the last anchor as made-up tables may have it
abbrev with_last : Store → ℕ → Store
with_last s r = with_progress s (record {
  last_proof = some (suc r);
  last_anchor = some r;
  full_bottom = s.progress.full_bottom;
  first_executable = s.progress.first_executable;
  gap = s.progress.gap;
})

abbrev paid : Store
paid = (fire (on_two 1) 526).store

-- with a seventh place and further calls before the commit
abbrev paid_with : List Call → Store
paid_with more = (fire (after (blank 7) (two false (some 0) (side 1) firing ++ (certs ++ more))) 526).store

abbrev wipe : Store → ℕ → Option ℕ → ℕ → Outcome
wipe s r since n = call s (remove r since (replicate n 99))

abbrev removes : List Row
removes =
    -- 23, then 21; the last proof stays
    row 1 (numbers (wipe (on_two 1) 13 none 100).answer) (stop 23)
    ∷ row 2 (numbers (wipe paid 16 none 0).answer) (stop 23)
    ∷ row 3 (numbers (wipe paid 15 none 4).answer) (stop 21)
    ∷ row 4 (ended (wipe paid 15 none 5)) (0 ∷ 16 ∷ 15 ∷ [])
    -- peers 0 and 1, rounds 11 and 12: each skipped two, score 4
    ∷ row 6 (numbers (wipe paid 15 (some 0) 66).answer) (stop 21)
    ∷ row 7 (bytes (wipe paid 15 (some 0) 68) (0 ∷ 1 ∷ 5 ∷ 9 ∷ 13 ∷ 31 ∷ 32 ∷ 62 ∷ 66 ∷ 67 ∷ [])) (2 ∷ 0 ∷ 11 ∷ 12 ∷ 2 ∷ 4 ∷ 1 ∷ 4 ∷ 0 ∷ 99 ∷ [])
    -- counted from round 12 on
    ∷ row 8 (bytes (wipe paid 15 (some 12) 68) (0 ∷ 5 ∷ 9 ∷ 13 ∷ 31 ∷ [])) (2 ∷ 12 ∷ 12 ∷ 1 ∷ 2 ∷ [])
    -- a point that is named only, certified too, counts for nothing
    ∷ row 9 (wipe (paid_with (name (id 12 1 122) ∷ certify (id 12 1 122) ∷ [])) 15 (some 0) 67).buffer (wipe paid 15 (some 0) 67).buffer
    ∷ row 5 ((wipe paid 15 none 5).store.bottom ∷ bytes (wipe paid 15 none 6) (0 ∷ 1 ∷ 4 ∷ 5 ∷ [])) (13 ∷ 0 ∷ 0 ∷ 0 ∷ 99 ∷ [])
    ∷ []

removed : agree removes ≡ true
unfolding computed numbers same agree Lists.all
removed = refl

-- ---- events

-- a proof of the point of 12 by 0 that peer 1 signed
abbrev signed : Resolution
signed = record { status = 1; proof = false; trigger = false; cause = false; top_proof = id 10 0 0; evidence = 2; includes = ref 0 120 ∷ []; witness = []; payload_len = 0; payload_bytes = 0 }

-- peer 1 signed the point of 12 by 0 (evidence in 13.0.130), did not include it at 13, and may witness it at 14; it made a second,
-- ill-formed point at 14
abbrev unreferenced_by : List Ref → List Call → List Call
unreferenced_by ws more =
    (from 2 10 false (some 0) ∷ rounds 11 5)
    ++ (both (id 12 0 120) (gave 1 [] [])
    ++ (both (id 13 0 130) signed
    ++ (both (id 13 1 131) (gave 1 [] [])
    ++ (both (id 14 1 141) (gave 1 [] ws) ++ (both (id 14 1 142) (gave 4 [] []) ++ more)))))

abbrev blaming : List Ref → List Call → Option ℕ → ℕ → Outcome
blaming ws more since n = wipe (with_last (after (blank 6) (unreferenced_by ws more)) 17) 17 since n

abbrev not_referenced : List Row
not_referenced =
    -- no counters: kind 3 with 14.1.142, kind 4 with two digests, kind 5 with blamed 13.1.131 and 14.1.141, proof 13.0.130
    row 1 (bytes (blaming [] [] none 300) (0 ∷ 4 ∷ 5 ∷ 9 ∷ 10 ∷ 42 ∷ 43 ∷ 44 ∷ 48 ∷ 52 ∷ 84 ∷ 116 ∷ 117 ∷ 118 ∷ 122 ∷ 126 ∷ 127 ∷ 159 ∷ 163 ∷ 196 ∷ 200 ∷ 204 ∷ 205 ∷ 237 ∷ 238 ∷ []))
    (0 ∷ 3 ∷ 3 ∷ 14 ∷ 1 ∷ 142 ∷ 4 ∷ 1 ∷ 14 ∷ 2 ∷ 141 ∷ 142 ∷ 5 ∷ 1 ∷ 2 ∷ 13 ∷ 1 ∷ 131 ∷ 14 ∷ 141 ∷ 1 ∷ 13 ∷ 0 ∷ 130 ∷ 99 ∷ [])
    -- witnessed at 14: no event of kind 5
    ∷ row 2 (bytes (blaming (ref 0 120 ∷ []) [] none 300) (4 ∷ 5 ∷ 43 ∷ 117 ∷ [])) (2 ∷ 3 ∷ 4 ∷ 99 ∷ [])
    -- of two proofs of one previous digest the greater is reported
    ∷ row 4 (bytes (blaming [] (both (id 13 0 132) signed) none 400) (4 ∷ 274 ∷ 278 ∷ 311 ∷ 312 ∷ [])) (4 ∷ 1 ∷ 13 ∷ 132 ∷ 99 ∷ [])
    -- the memory is of the last drained round
    ∷ row 3 ((blaming [] [] none 300).store.memory.last ∷ []) (14 ∷ [])
    ∷ []

blamed : agree not_referenced ≡ true
unfolding computed numbers same agree Lists.all
blamed = refl

-- peer 1 of rounds 11 to 14: skipped 2, valid 2, equivocated 1, ill-formed 1, references 1; score 4 + 20 + 10 + 1
abbrev pays : List Row
pays = row 1 (bytes (blaming [] [] (some 0) 400) (0 ∷ 32 ∷ 36 ∷ 40 ∷ 42 ∷ 44 ∷ 46 ∷ 48 ∷ 50 ∷ 52 ∷ 54 ∷ 56 ∷ 58 ∷ 62 ∷ [])) (2 ∷ 1 ∷ 11 ∷ 14 ∷ 0 ∷ 2 ∷ 2 ∷ 0 ∷ 1 ∷ 0 ∷ 0 ∷ 1 ∷ 1 ∷ 35 ∷ []) ∷ []

paying : agree pays ≡ true
unfolding computed numbers same agree Lists.all
paying = refl

-- ---- weights at the edges of the bands

abbrev bands : List Row
bands = row 1 (map (weight 1) (0 ∷ 9 ∷ 10 ∷ 99 ∷ 100 ∷ [])) (2 ∷ 2 ∷ 3 ∷ 3 ∷ 4 ∷ []) ∷ row 2 (map (λ i. weight i 100) (0 ∷ 1 ∷ 2 ∷ 3 ∷ 4 ∷ 5 ∷ 6 ∷ 7 ∷ 8 ∷ [])) (0 ∷ 4 ∷ 0 ∷ 0 ∷ 60 ∷ 12 ∷ 20 ∷ 20 ∷ 3 ∷ []) ∷ []

weighed : agree bands ≡ true
unfolding computed numbers same agree Lists.all
weighed = refl
