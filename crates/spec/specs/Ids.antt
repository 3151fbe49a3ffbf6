-- Rounds, digests, ids, links and peer sets (01: 'Forms of the Rust', parts.rs, info.rs).
use Rattle.std.specs.Prelude.{ℕ, ◌+◌, ◌-◌, List, ◌++◌, map, Bool, ◌&&◌, ◌||◌, eqb, leb, ltb}
use Rattle.laws.specs.Bytes.{be}

-- 01, parts.rs: "A point id is round (4 bytes, big-endian), author (1), digest (32): 37 bytes."
-- A digest is the number that its 32 bytes are, so digests are ordered as their bytes are.
pub record Id : Type 0 where
  pub round : ℕ
  pub author : ℕ
  pub digest : ℕ

unfoldable pub id_bytes : Id → List ℕ
id_bytes i = be 4 i.round ++ (be 1 i.author ++ be 32 i.digest)

unfoldable pub same_id : Id → Id → Bool
same_id i j = eqb i.round j.round && (eqb i.author j.author && eqb i.digest j.digest)

-- 01, 'Forms': "Subtraction and `prev` stop at 0."
abbrev pub prev : ℕ → ℕ
prev r = r - 1

-- by round, and inside a round by rising digest
unfoldable pub by_round : (ℕ → ℕ → Bool) → Id → Id → Bool
by_round less i j = less i.round j.round || (eqb i.round j.round && leb i.digest j.digest)

-- rounds rise, and digests inside a round: how the set of a history is listed
unfoldable pub rises : Id → Id → Bool
rises = by_round ltb

-- 01, 'Refusals': a history is tested "downwards"; "inside one round, points are tested by rising digest"
unfoldable pub falls : Id → Id → Bool
falls = by_round (λ m n. ltb n m)

-- 01, info.rs: includes and witness are links, "peer and digest"
pub record Ref : Type 0 where
  pub peer : ℕ
  pub digest : ℕ

-- a link with its distance: "Includes lead one round down, witness two."
pub record Link : Type 0 where
  pub dist : ℕ
  pub to : Ref

abbrev pub leads : ℕ → Ref → Link
leads d r = record { dist = d; to = r }

-- 01, info.rs: the includes and the witness of a point, each with its distance
unfoldable pub links_of : List Ref → List Ref → List Link
links_of includes witness = map (leads 1) includes ++ map (leads 2) witness

-- the link l of a point of round r leads to the id i
unfoldable pub fits : ℕ → Id → Link → Bool
fits r i l = eqb (i.round + l.dist) r && (eqb i.author l.to.peer && eqb i.digest l.to.digest)
