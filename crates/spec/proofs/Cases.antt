-- The cases of 01 as one table of rows with one theorem (01: 'Cases'; K9 goes through a program). K13 is lent lists (02: N1).
use Rattle.std.specs.Prelude.{ℕ, ◌≡◌, refl, true, false, get_or, replicate}
use mathlib.Core.List.{List, [], ◌∷◌, ◌++◌, map, Memᴰ}
use Rattle.std.proofs.Math.Option.{none, some}
use Rattle.laws.specs.Lists
use Rattle.spec.specs.Store.{Store, with_progress}
use Rattle.spec.specs.Chain.{EnqueuedAnchor}
use Rattle.spec.specs.History.{limit, prev_anchor}
use Rattle.spec.specs.Inspect.{score}
use Rattle.spec.specs.Calls.{Outcome, Call, round, name, resolve, certify, commit, drop, call}
use Rattle.spec.specs.Demand.{after}
use Rattle.spec.specs.Scenarios.{Row, conf, blank, from, id, ref, valid, rounds, computed, numbers, same, agree, agree_elim}

-- ---- K13

-- "start at 10 used by 0, no gap, rounds to 15, peers 0 and 1; trigger 15, proof 14, anchor 13, all valid and by 0, each the previous point
-- of the one before; 13 includes two valid points of 12, both including the same valid point of 11; the top proof of 13 is by 0 in 10; 13
-- certified"
abbrev thirteen : List Call
thirteen =
    from 2 10 false (some 0) ∷ round 11 3 ∷ round 12 3 ∷ round 13 3 ∷ round 14 3 ∷ round 15 3
    ∷ name (id 11 0 110) ∷ resolve (id 11 0 110) (valid false false [])
    ∷ name (id 12 0 120) ∷ resolve (id 12 0 120) (valid false false (ref 0 110 ∷ []))
    ∷ name (id 12 1 121) ∷ resolve (id 12 1 121) (valid false false (ref 0 110 ∷ []))
    ∷ name (id 13 0 130) ∷ resolve (id 13 0 130) (valid false false (ref 0 120 ∷ ref 1 121 ∷ []))
    ∷ name (id 14 0 140) ∷ resolve (id 14 0 140) (valid true false (ref 0 130 ∷ []))
    ∷ name (id 15 0 150) ∷ resolve (id 15 0 150) (valid false true (ref 0 140 ∷ []))
    ∷ certify (id 13 0 130) ∷ []

abbrev k13 : Outcome
k13 = call (after (blank 6) thirteen) (commit (id 15 0 150) (0 ∷ 0 ∷ 1 ∷ 0 ∷ []) (replicate 427 0))

-- the number of points of the first record
abbrev points : List ℕ → ℕ
points b = get_or b 82 0

-- ---- heights

-- "H 3, top at 20": a chain of includes from 20 down to 16, the point of 20 certified; "tops 20 and 18 both reach 17"
abbrev line : List Call
line =
    from 3 16 false none ∷ round 17 3 ∷ round 18 3 ∷ round 19 3 ∷ round 20 3
    ∷ name (id 16 0 160) ∷ resolve (id 16 0 160) (valid false false [])
    ∷ name (id 17 0 170) ∷ resolve (id 17 0 170) (valid false false (ref 0 160 ∷ []))
    ∷ name (id 18 0 180) ∷ resolve (id 18 0 180) (valid false false (ref 0 170 ∷ []))
    ∷ name (id 19 0 190) ∷ resolve (id 19 0 190) (valid false false (ref 0 180 ∷ []))
    ∷ name (id 20 0 200) ∷ resolve (id 20 0 200) (valid false false (ref 0 190 ∷ []))
    ∷ certify (id 20 0 200) ∷ []

abbrev heights_of : Store → List ℕ
heights_of s = map s.heights (4 ∷ 3 ∷ 2 ∷ 1 ∷ 0 ∷ [])

-- ---- the table

-- bottom, full-history bottom, first executable
abbrev bounds : Store → List ℕ
bounds s = s.bottom ∷ s.progress.full_bottom ∷ s.progress.first_executable ∷ []

abbrev k8 : Outcome
k8 = call (after (blank 6) (from 2 20 false none ∷ rounds 21 10)) (drop 10)

abbrev link : ℕ → EnqueuedAnchor
link r = record { anchor = 0; proof = 0; prev_proof_round = r }

-- a start at 10, rounds to 12, last proof 12 and a trigger of round 12
abbrev proved12 : Store
proved12 = with_progress s (record {
  last_proof = some 12;
  last_anchor = some 11;
  full_bottom = s.progress.full_bottom;
  first_executable = s.progress.first_executable;
  gap = none;
})
  where
    s : Store
    s = after (blank 6) (from 2 10 false none ∷ rounds 11 2 ++ (name (id 12 0 120) ∷ resolve (id 12 0 120) (valid false true []) ∷ []))

abbrev rows : List Row
rows =
    record { case = 1; given = limit (conf 2) 13 ∷ []; expected = 11 ∷ [] }
    ∷ record { case = 2; given = limit (conf 2) 12 ∷ []; expected = 11 ∷ [] }
    ∷ record { case = 3; given = limit (conf 2) 14 ∷ []; expected = 12 ∷ [] }
    ∷ record { case = 4; given = heights_of (after (blank 6) line); expected = 4 ∷ 3 ∷ 2 ∷ 1 ∷ 0 ∷ [] }
    ∷ record { case = 5; given = heights_of (after (blank 6) (line ++ (certify (id 18 0 180) ∷ []))); expected = 4 ∷ 3 ∷ 4 ∷ 3 ∷ 2 ∷ [] }
    ∷ record { case = 6; given = bounds (after (blank 6) (from 2 12 false none ∷ [])); expected = 12 ∷ 12 ∷ 12 ∷ [] }
    ∷ record { case = 7; given = bounds (after (blank 6) (from 2 13 true none ∷ [])); expected = 13 ∷ 15 ∷ 20 ∷ [] }
    ∷ record { case = 8; given = numbers k8.answer ++ bounds k8.store; expected = 1 ∷ 20 ∷ 12 ∷ 17 ∷ [] }
    ∷ record { case = 10; given = score (record { was_leader = 0; skipped_rounds = 10; valid_points = 0; points_proved = 0; equivocated = 2; trans_invalid = 0; invalid = 0; ill_formed = 0; references_skipped = 0 }) ∷ []; expected = 70 ∷ [] }
    ∷ record { case = 11; given = prev_anchor (blank 6) (link 11) ∷ prev_anchor (blank 6) (link 12) ∷ []; expected = 0 ∷ 11 ∷ [] }
    ∷ record { case = 12; given = numbers (call proved12 (commit (id 12 0 120) [] [])).answer; expected = 3 ∷ 0 ∷ [] }
    ∷ record { case = 13; given = numbers k13.answer ++ (points k13.buffer ∷ []); expected = 3 ∷ 1 ∷ 4 ∷ [] }
    ∷ []

-- every row is computed ..
test : agree rows ≡ true
unfolding computed numbers same agree Lists.all
test = refl

-- .. so each case comes out as 01 says
pub cases : (r : Row) → Memᴰ r rows → r.given ≡ r.expected
cases = agree_elim rows test
