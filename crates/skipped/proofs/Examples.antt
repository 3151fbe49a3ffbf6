-- Triggers skipped and not, and what they give (02: N9).
use Rattle.std.specs.Prelude.{ℕ, ◌≡◌, refl, Bool, true, false, get_or, take, replicate}
use mathlib.Core.List.Memᴰ
use mathlib.Core.List.{List, [], ◌∷◌, ◌++◌, map, Memᴰ}
use Rattle.std.proofs.Math.Option.{Option, none, some}
use Rattle.laws.specs.Lists
use Rattle.laws.specs.Lists.{has, has_elim, joined}
use Rattle.spec.specs.Ids.{Id, Ref, same_id}
use Rattle.spec.specs.Store.{Store, word}
use Rattle.spec.specs.Chain.{EnqueuedAnchor, or_zero}
use Rattle.spec.specs.Calls.{Call, name, resolve, certify, commit, call}
use Rattle.spec.specs.Walk.{same_id_lem}
use Rattle.spec.specs.Demand.{after, finished}
use Rattle.spec.specs.Scenarios.{Row, blank, from, id, ref, rounds, computed, numbers, same, agree}
use Rattle.skipped.specs.Skipped.{Passes, pieces, lists_read, bytes_read, record_size, records_in}

-- the valid point i of peer 0, a proof, a trigger or neither, with its top proof in this round
abbrev point : Id → Bool → Bool → ℕ → List Ref → List Call
point i p t top is = name i ∷ resolve i (record { status = 1; proof = p; trigger = t; cause = true; top_proof = id top 0 top; evidence = 0; includes = is; witness = []; payload_len = 1; payload_bytes = i.round }) ∷ []

-- peer 0's point in round r
abbrev own : ℕ → Id
own r = id r 0 r

-- H 1, a start at 10, used by 0. Peer 0 has a point in each round from 11 to 17, each the previous point of the next; even rounds are proofs,
-- odd rounds from 13 on triggers, certified, with the proof below as their top proof; that of 15 is in round t
abbrev tower : ℕ → Store
tower t = after (blank 8) (
    (from 1 10 false (some 0) ∷ rounds 11 7)
    ++ (point (own 11) false false 10 []
    ++ (point (own 12) true false 10 (ref 0 11 ∷ [])
    ++ (point (own 13) false true 12 (ref 0 12 ∷ [])
    ++ (point (own 14) true false 10 (ref 0 13 ∷ [])
    ++ (point (own 15) false true t (ref 0 14 ∷ [])
    ++ (point (own 16) true false 10 (ref 0 15 ∷ [])
    ++ (point (own 17) false true 16 (ref 0 16 ∷ []) ++ (certify (own 11) ∷ certify (own 13) ∷ certify (own 15) ∷ [])))))))))

-- with another point of peer 0 in round 13, which is no trigger and has the same previous point as the one that is
abbrev beside : Store
beside = after (tower 14) (point (id 13 0 113) false false 12 (ref 0 12 ∷ []))

-- place lists of one place each, for at most five rounds
abbrev lists : List ℕ
lists = replicate 5 0

abbrev fires : Id → Call
fires i = commit i lists (replicate 800 0)

-- the triggers of these rounds
abbrev of : List ℕ → List Id
of rs = map own rs

-- the answers of commits one after another
abbrev answers : Store → List Id → List ℕ
answers s [] = []
answers s (i ∷ is) = let o = call s (fires i) in numbers o.answer ++ answers o.store is

-- their records
abbrev written : Store → List Id → List (List ℕ)
written s [] = []
written s (i ∷ is) = let o = call s (fires i) in records_in (finished o.answer) o.buffer ++ written o.store is

abbrev bytes : Store → List Id → List ℕ
bytes s is = joined (λ (l : List ℕ). l) (written s is)

-- of each record: anchor, proof, previous anchor round, number of points
abbrev heads : Store → List Id → List ℕ
heads s is = joined (λ (l : List ℕ). get_or l 3 0 ∷ get_or l 40 0 ∷ get_or l 78 0 ∷ get_or l 82 0 ∷ []) (written s is)

-- the bytes of lists that they read
abbrev reads : Store → List Id → List ℕ
reads s [] = []
reads s (i ∷ is) = bytes_read s i lists ++ reads (call s (fires i)).store is

abbrev row : ℕ → List ℕ → List ℕ → Row
row n x y = record { case = n; given = x; expected = y }

-- what commits one after another leave: last proof, last anchor, the used marks of 12, 14 and 16, the certificate words of all places
abbrev left : Store → List Id → List ℕ
left s is =
    let t = after s (map fires is) in
    or_zero t.progress.last_proof ∷ or_zero t.progress.last_anchor ∷ map (λ r. shown (t.rounds r).used) (12 ∷ 14 ∷ 16 ∷ []) ++ map (λ q. word (t.pt q).flags (t.heights q)) (0 ∷ 1 ∷ 2 ∷ 3 ∷ 4 ∷ 5 ∷ 6 ∷ 7 ∷ [])
  where
    shown : Option ℕ → ℕ
    shown none = 99
    shown (some a) = a

abbrev rows : List Row
rows =
    -- 13, 15 and 15 alone
    row 1 (heads (tower 14) (of (13 ∷ 15 ∷ []))) (11 ∷ 12 ∷ 0 ∷ 1 ∷ 13 ∷ 14 ∷ 11 ∷ 2 ∷ [])
    ∷ row 2 (bytes (tower 14) (of (13 ∷ 15 ∷ []))) (bytes (tower 14) (of (15 ∷ [])))
    ∷ row 3 (left (tower 14) (of (13 ∷ 15 ∷ []))) (left (tower 14) (of (15 ∷ [])))
    ∷ row 4 (take 5 (left (tower 14) (of (15 ∷ [])))) (14 ∷ 13 ∷ 0 ∷ 0 ∷ 99 ∷ [])
    -- 13, 17; 15, 17; 13, 15, 17, and 17 alone
    ∷ row 5 (heads (tower 14) (of (17 ∷ []))) (11 ∷ 12 ∷ 0 ∷ 1 ∷ 13 ∷ 14 ∷ 11 ∷ 2 ∷ 15 ∷ 16 ∷ 13 ∷ 2 ∷ [])
    ∷ row 6 (bytes (tower 14) (of (13 ∷ 17 ∷ []))) (bytes (tower 14) (of (17 ∷ [])))
    ∷ row 7 (bytes (tower 14) (of (15 ∷ 17 ∷ []))) (bytes (tower 14) (of (17 ∷ [])))
    ∷ row 8 (bytes (tower 14) (of (13 ∷ 15 ∷ 17 ∷ []))) (bytes (tower 14) (of (17 ∷ [])))
    ∷ row 9 (left (tower 14) (of (13 ∷ 17 ∷ []))) (left (tower 14) (of (17 ∷ [])))
    ∷ row 10 (reads (tower 14) (of (13 ∷ 17 ∷ []))) (reads (tower 14) (of (17 ∷ [])))
    ∷ row 11 (reads (tower 14) (of (17 ∷ []))) (replicate 5 0)
    -- the same trigger twice, and twice before a third
    ∷ row 12 (answers (tower 14) (of (13 ∷ 13 ∷ []))) (3 ∷ 1 ∷ 3 ∷ 0 ∷ [])
    ∷ row 13 (heads (tower 14) (of (13 ∷ 13 ∷ 15 ∷ []))) (11 ∷ 12 ∷ 0 ∷ 1 ∷ 13 ∷ 14 ∷ 11 ∷ 2 ∷ [])
    -- 17 doesn't pass 12, the proof with which the chain of 13 began. None is refused; 11 is committed by the one and not by the other
    ∷ row 14 (answers (tower 10) (of (13 ∷ 17 ∷ []))) (3 ∷ 1 ∷ 3 ∷ 1 ∷ [])
    ∷ row 15 (heads (tower 10) (of (13 ∷ 17 ∷ []))) (11 ∷ 12 ∷ 0 ∷ 1 ∷ 15 ∷ 16 ∷ 0 ∷ 2 ∷ [])
    ∷ row 16 (answers (tower 10) (of (17 ∷ []))) (3 ∷ 1 ∷ [])
    ∷ row 17 (heads (tower 10) (of (17 ∷ []))) (15 ∷ 16 ∷ 0 ∷ 2 ∷ [])
    -- nor does a point that is no trigger, though its previous point is that proof
    ∷ row 18 (answers beside (own 13 ∷ id 13 0 113 ∷ [])) (3 ∷ 1 ∷ 3 ∷ 0 ∷ [])
    ∷ row 19 (answers beside (id 13 0 113 ∷ [])) (3 ∷ 0 ∷ [])
    ∷ []

agrees : agree rows ≡ true
unfolding computed numbers same agree Lists.all finished record_size records_in pieces lists_read
agrees = refl

among : (i : Id) (l : List Id) → has (same_id i) l ≡ true → Memᴰ i l
among i l h = let (x, m, e) = has_elim (same_id i) l h in Memᴰ.cast (same_id_lem i x e) m

-- the chain of 17 passes the proof with which that of 13 began
passed : Passes (tower 14) (own 13) (own 17)
unfolding computed has
passed = record {
  first = 2;
  found_first = refl;
  digest_first = 12;
  previous_first = refl;
  later = 6;
  found_later = refl;
  is_valid = refl;
  is_trigger = refl;
  digest_later = 16;
  previous_later = refl;
  chain = enqueued 0 1 10 ∷ enqueued 2 3 12 ∷ enqueued 4 5 14 ∷ [];
  yields = refl;
  passes = among _ _ refl;
}
  where
    enqueued : ℕ → ℕ → ℕ → EnqueuedAnchor
    enqueued a p r = record { anchor = a; proof = p; prev_proof_round = r }
