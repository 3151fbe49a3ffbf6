-- Calls as records of a trace (02: N5).
use Rattle.std.specs.Prelude.{ℕ, ◌+◌, ◌^◌, List, [], ◌∷◌, ◌++◌, map, Bool, true, false, not, ◌&&◌, eqb, leb, ltb, length}
use Rattle.std.proofs.Math.Option.{Option, none, some}
use Rattle.laws.specs.Bytes.{be, written}
use Rattle.laws.specs.Lists.{all}
use Rattle.spec.specs.Ids.{Id, Ref}
use Rattle.spec.specs.Store.{Resolution, bit}
use Rattle.spec.specs.Chain.{Out, good, then, refuse}
use Rattle.spec.specs.Calls.{Call, StartArgs, start, reset_all, round, name, resolve, certify, gap_question, commit, outlook, remove, drop}

-- a field: its width in bytes and its number
pub record Field : Type 0 where
  pub width : ℕ
  pub number : ℕ

abbrev pub field : ℕ → ℕ → Field
field w n = record { width = w; number = n }

-- "all big-endian"
unfoldable pub field_bytes : List Field → List ℕ
field_bytes [] = []
field_bytes (f ∷ fs) = be f.width f.number ++ field_bytes fs

-- "a field .. that doesn't fit"
unfoldable pub fits_field : Field → Bool
fits_field f = ltb f.number (256 ^ f.width)

-- "id": round 4, author 1, digest 32; then what follows it
abbrev pub id_then : Id → List Field → List Field
id_then i fs = field 4 i.round ∷ field 1 i.author ∷ field 32 i.digest ∷ fs

-- "a flag is no only at 0, and yes is written 1"
abbrev pub flag_field : Bool → Field
flag_field b = field 1 (bit 1 b)

-- "used author (1; 255 for none)"
unfoldable pub used_byte : Option ℕ → ℕ
used_byte none = 255
used_byte (some a) = a

-- "Start: genesis, H, deduplicate rounds, bottom, its peers (4 each), after gap (flag), used author (1; 255 for none)"
unfoldable pub start_fields : StartArgs → List Field
start_fields a =
    field 4 a.conf.genesis ∷ field 4 a.conf.history_rounds ∷ field 4 a.conf.deduplicate_rounds ∷ field 4 a.bottom ∷ field 4 a.peers ∷ flag_field a.after_gap
    ∷ field 1 (used_byte a.used) ∷ []

-- "links (33 each)": peer 1, digest 32
unfoldable pub link_fields : List Ref → List Field
link_fields [] = []
link_fields (r ∷ rs) = field 1 r.peer ∷ field 32 r.digest ∷ link_fields rs

-- "marks (bits 0 to 2)", "further mark bits .. are written 0"
unfoldable pub marks_byte : Resolution → ℕ
marks_byte t = bit 1 t.proof + bit 2 t.trigger + bit 4 t.cause

-- "Resolve: id, status, marks (bits 0 to 2), top proof's id, evidence (4), number of includes, of witness (1 each), their links (33 each),
-- N2's numbers."
unfoldable pub resolve_fields : Id → Resolution → List Field
resolve_fields i t =
    id_then i (field 1 t.status ∷ field 1 (marks_byte t) ∷ id_then t.top_proof (field 4 t.evidence ∷ field 1 (length t.includes) ∷ field 1 (length t.witness)
    ∷ (link_fields t.includes ++ (link_fields t.witness ++ (field 4 t.payload_len ∷ field 4 t.payload_bytes ∷ [])))))

-- "Remove: round, flag, `stats_since`", "`stats_since` after flag 0 .. written 0"
unfoldable pub remove_fields : ℕ → Option ℕ → List Field
remove_fields r none = field 4 r ∷ flag_field false ∷ field 4 0 ∷ []
remove_fields r (some x) = field 4 r ∷ flag_field true ∷ field 4 x ∷ []

-- the fields of a call, "Commit: id, place lists", 1 byte for each place; an outlook has no record
unfoldable pub fields_of : Call → List Field
fields_of (start a) = start_fields a
fields_of (round r peers) = field 4 r ∷ field 4 peers ∷ []
fields_of (name i) = id_then i []
fields_of (resolve i t) = resolve_fields i t
fields_of (certify i) = id_then i []
fields_of (commit i l b) = id_then i (map (field 1) l)
fields_of (remove r from b) = remove_fields r from
fields_of (drop r) = field 4 r ∷ []
fields_of gap_question = []
fields_of reset_all = []
fields_of (outlook i b) = []

-- "Kinds 1 to 9: start, round, name, resolve, certify, commit, remove, drop, gap question; reset is 10."
unfoldable pub kind_byte : Call → ℕ
kind_byte c = elim c [ start a ↦ 1 | reset_all ↦ 10 | round r peers ↦ 2 | name i ↦ 3 | resolve i t ↦ 4 | certify i ↦ 5 | gap_question ↦ 9 | commit i l b ↦ 6 | outlook i b ↦ 0 | remove r from b ↦ 7 | drop r ↦ 8 ]

-- "a used author of 255": none is written so
unfoldable pub is255 : Option ℕ → Bool
is255 none = false
is255 (some a) = eqb a 255

-- a start without it; an outlook has no record
unfoldable pub sayable : Call → Bool
sayable c = elim c [ start a ↦ not (is255 a.used) | reset_all ↦ true | round r peers ↦ true | name i ↦ true | resolve i t ↦ true | certify i ↦ true | gap_question ↦ true | commit i l b ↦ true | outlook i b ↦ false | remove r from b ↦ true | drop r ↦ true ]

abbrev pub fields_in : Call → List ℕ
fields_in c = field_bytes (fields_of c)

-- what a record holds: "length of the rest (4 bytes), version byte 1, kind byte, fields"
abbrev pub record_bytes : ℕ → List ℕ → List ℕ
record_bytes k f = be 4 (2 + length f) ++ (1 ∷ k ∷ f)

-- "Writing a call's record refuses with 26 a field or rest that doesn't fit and a used author of 255"
unfoldable pub record_of : Call → Out (List ℕ)
record_of c = refuse (not (sayable c && (all fits_field (fields_of c) && leb (2 + length (fields_in c)) 4096))) 26 (good (record_bytes (kind_byte c) (fields_in c)))

-- "then with 21 a short buffer"
unfoldable pub put_record : List ℕ → Call → Out (List ℕ)
put_record b c = then (record_of c) (λ r. refuse (ltb (length b) (length r)) 21 (good (written b 0 r)))

-- calls one after another
unfoldable pub records_of : List Call → Out (List ℕ)
records_of [] = good []
records_of (c ∷ cs) = then (record_of c) (λ r. then (records_of cs) (λ rs. good (r ++ rs)))

-- a call as a trace has it: the buffer isn't in its record, it is lent when the call is played
unfoldable pub lending : List ℕ → Call → Call
lending room (start a) = start a
lending room reset_all = reset_all
lending room (round r peers) = round r peers
lending room (name i) = name i
lending room (resolve i t) = resolve i t
lending room (certify i) = certify i
lending room gap_question = gap_question
lending room (commit i l b) = commit i l room
lending room (outlook i b) = outlook i room
lending room (remove r from b) = remove r from room
lending room (drop r) = drop r
