-- The store (01: 'Forms of the Rust', dag_point.rs, cert.rs, back.rs, commit/mod.rs).
use Rattle.std.specs.Prelude.{ℕ, ◌+◌, List, [], ◌∷◌, Bool, true, false, ◌&&◌, cond, eqb, leb, ltb}
use Rattle.std.proofs.Math.Option.{Option, none, some}
use Rattle.laws.specs.Scan.{lowest}
use Rattle.laws.specs.Lists.{has}
use Rattle.spec.specs.Ids.{Id, Ref, Link, same_id, links_of, fits}

-- 01, parts.rs: "Resolving gives a status (1 valid, 2 trans-invalid, 3 invalid, 4 ill-formed, 5 not found), marks (proof,
-- trigger, cause has a DAG round), the id of its top anchor proof, evidence as a peer set, and includes and witness".
-- Status 0: named and not resolved. 02, N2: "`payload_len` and `payload_bytes`, each a 32-bit number .. Resolving takes both, every resolved
-- point holds them".
pub record Resolution : Type 0 where
  pub status : ℕ
  pub proof : Bool
  pub trigger : Bool
  pub cause : Bool
  pub top_proof : Id
  pub evidence : ℕ
  pub includes : List Ref
  pub witness : List Ref
  pub payload_len : ℕ
  pub payload_bytes : ℕ

-- the four flags of the certificate word
pub record Flags : Type 0 where
  pub top : Bool
  pub started : Bool
  pub completed : Bool
  pub committed : Bool

-- what stands at a place; named: the place is in use
pub record Point : Type 0 where
  pub named : Bool
  pub id : Id
  pub resolution : Resolution
  pub flags : Flags

-- a retained round: its peers and the author of its used mark
pub record Round : Type 0 where
  pub peers : ℕ
  pub used : Option ℕ

-- 01, inspector.rs: "the inspector's memory of its last round". Of each trusted point of that round: its author, digest
-- and previous digest, and the peers that signed the previous point and did not include it.
pub record Entry : Type 0 where
  pub author : ℕ
  pub digest : ℕ
  pub previous : Option ℕ
  pub unreferenced_by : ℕ → Bool

pub record Memory : Type 0 where
  pub last : ℕ
  pub entries : List Entry

-- genesis, `commit_history_rounds` (01's H), `deduplicate_rounds`
pub record Conf : Type 0 where
  pub genesis : ℕ
  pub history_rounds : ℕ
  pub deduplicate_rounds : ℕ

-- `last_committed_proof`, the last anchor handed out since the start, `full_history_bottom`, `first_executable`,
-- `emit_first_after_gap` (none disarmed, false before the gap question is put, true after it)
pub record Progress : Type 0 where
  pub last_proof : Option ℕ
  pub last_anchor : Option ℕ
  pub full_bottom : ℕ
  pub first_executable : ℕ
  pub gap : Option Bool

-- what the last start or reset left; other: neither, as in tables that no call wrote
pub data Phase : Type 0 where
  started : Phase
  reset : Phase
  other : Phase

-- 01, 'Forms': "points stand in lent tables of 1 to 4,096 places, at most 512 rounds retained". Rounds from bottom to top are
-- retained; heights: the height in each place's certificate word.
pub record Store : Type 0 where
  pub phase : Phase
  pub places : ℕ
  pub pt : ℕ → Point
  pub heights : ℕ → ℕ
  pub bottom : ℕ
  pub top : ℕ
  pub rounds : ℕ → Round
  pub conf : Conf
  pub progress : Progress
  pub memory : Memory

-- ---- what is empty

abbrev pub no_id : Id
no_id = record { round = 0; author = 0; digest = 0 }

abbrev pub unresolved : Resolution
unresolved = record { status = 0; proof = false; trigger = false; cause = false; top_proof = no_id; evidence = 0; includes = []; witness = []; payload_len = 0; payload_bytes = 0 }

abbrev pub no_flags : Flags
no_flags = record { top = false; started = false; completed = false; committed = false }

-- a free place
abbrev pub free : Point
free = record { named = false; id = no_id; resolution = unresolved; flags = no_flags }

abbrev pub no_round : Round
no_round = record { peers = 0; used = none }

abbrev pub no_memory : Memory
no_memory = record { last = 0; entries = [] }

-- ---- reading the store

abbrev pub id_at : Store → ℕ → Id
id_at s q = (s.pt q).id

abbrev pub round_at : Store → ℕ → ℕ
round_at s q = (s.pt q).id.round

abbrev pub status_at : Store → ℕ → ℕ
status_at s q = (s.pt q).resolution.status

-- 01, 'Forms': "A future is a point *named* and later *resolved* once."
unfoldable pub resolved : Point → Bool
resolved p = p.named && ltb 0 p.resolution.status

-- the links of a point, with their distances
abbrev pub links : Point → List Link
links p = links_of p.resolution.includes p.resolution.witness

-- p is resolved, q is named, and a link of p leads to q
unfoldable pub links_to : Point → Point → Bool
links_to p q = resolved p && (q.named && has (fits p.id.round q.id) (links p))

-- the rounds from bottom to top are retained
abbrev pub retained : Store → ℕ → Bool
retained s r = leb s.bottom r && leb r s.top

-- the place of a named id
unfoldable pub is_named : Store → Id → ℕ → Bool
is_named s i q = (s.pt q).named && same_id (id_at s q) i

unfoldable pub find : Store → Id → Option ℕ
find s i = lowest s.places (is_named s i)

-- 02, N3: "The point look-up now answers three ways: resolved, named only, never named." The first two come with the place.
pub data Look : Type 0 where
  resolved_at : ℕ → Look
  named_at : ℕ → Look
  never : Look

-- of a place in use
unfoldable pub look_at : Store → ℕ → Look
look_at s q = elim (resolved (s.pt q)) [ true ↦ resolved_at q | false ↦ named_at q ]

-- of an id: 01's `now_or_never` "finds a resolved point or none", and none is now one of two
unfoldable pub look : Store → Id → Look
look s i = elim (find s i) [ none ↦ never | some q ↦ look_at s q ]

-- 01, parts.rs: "The *previous* point is the include under the point's own author." Its digest.
unfoldable pub under : ℕ → List Ref → Option ℕ
under a [] = none
under a (r ∷ rs) = elim (eqb r.peer a) [ true ↦ some r.digest | false ↦ under a rs ]

abbrev pub previous : Point → Option ℕ
previous p = under p.id.author p.resolution.includes

-- 01, 'Forms': "the certificate word keeps its 16 bits: top 8000, started 4000, completed 2000, committed 1000 (hexadecimal), height
-- in the low 12"
abbrev pub bit : ℕ → Bool → ℕ
bit w b = cond b w 0

unfoldable pub word : Flags → ℕ → ℕ
word f h = bit 0x8000 f.top + bit 0x4000 f.started + bit 0x2000 f.completed + bit 0x1000 f.committed + h

-- ---- changes that several calls make

-- s with other points and heights
unfoldable pub with_points : Store → (ℕ → Point) → (ℕ → ℕ) → Store
with_points s f h = record {
  phase = s.phase;
  places = s.places;
  pt = f;
  heights = h;
  bottom = s.bottom;
  top = s.top;
  rounds = s.rounds;
  conf = s.conf;
  progress = s.progress;
  memory = s.memory;
}

-- s with other progress and memory
unfoldable pub with_numbers : Store → Progress → Memory → Store
with_numbers s p m = record {
  phase = s.phase;
  places = s.places;
  pt = s.pt;
  heights = s.heights;
  bottom = s.bottom;
  top = s.top;
  rounds = s.rounds;
  conf = s.conf;
  progress = p;
  memory = m;
}

abbrev pub with_progress : Store → Progress → Store
with_progress s p = with_numbers s p s.memory

abbrev pub with_memory : Store → Memory → Store
with_memory s m = with_numbers s s.progress m

abbrev pub with_gap : Store → Option Bool → Store
with_gap s g = with_progress s (record {
  last_proof = s.progress.last_proof;
  last_anchor = s.progress.last_anchor;
  full_bottom = s.progress.full_bottom;
  first_executable = s.progress.first_executable;
  gap = g;
})
