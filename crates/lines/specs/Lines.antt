-- The lines that N5's program writes (02: N5), and their bytes.
use Rattle.std.specs.Prelude.{ℕ, zero, suc, ◌+◌, ◌*◌, ◌/◌, ◌%◌, ◌≤◌, ◌≡◌, refl, cond, List, [], ◌∷◌, ◌++◌, map, eqb, ltb, length, take, drop}
use Rattle.laws.specs.Lists.{joined, joined-append}
use Rattle.laws.specs.Bytes.{value}
use Rattle.spec.specs.Store.{Store}
use Rattle.spec.specs.Rules.{counts_as_started}
use Rattle.spec.specs.Calls as calls
use Rattle.spec.specs.Calls.{Call, done, flag, anchors, refused, number_of, call}
use Rattle.spec.specs.Demand.{History, wrote, finished, tail_size}

-- "one line per anchor record, `anchor ` with round, author and number of points in decimal, for each refusal .. a line `refused ` with the
-- number, and at the end `rounds ` with bottom and top"
pub data Line : Type 0 where
  anchor_line : ℕ → ℕ → ℕ → Line
  refused_line : ℕ → Line
  rounds_line : ℕ → ℕ → Line

abbrev pub line_of : History → Line
line_of h = anchor_line h.anchor.round h.anchor.author (length h.ids)

unfoldable pub refusal_lines : calls.Answer → List Line
refusal_lines a = elim a [ done ↦ [] | flag y ↦ [] | anchors n ↦ [] | refused r n ↦ refused_line (number_of r) ∷ [] ]

-- of a call: its anchors, then its refusal
unfoldable pub lines_of : Store → Call → calls.Outcome → List Line
lines_of s c o = map line_of (wrote s c o) ++ refusal_lines o.answer

-- "both 0 if nothing is started"
unfoldable pub last_line : Store → Line
last_line s = cond (counts_as_started s) (rounds_line s.bottom s.top) (rounds_line 0 0)

-- 26 and 27 "end the play, `rounds ` still following"
unfoldable pub end_lines : ℕ → List Line
end_lines n = cond (eqb n 0) [] (refused_line n ∷ [])

-- of calls made directly, one after another
unfoldable pub lines_from : Store → List Call → List Line
lines_from s [] = []
lines_from s (c ∷ cs) = lines_of s c (call s c) ++ lines_from (call s c).store cs

-- ---- bytes

-- "in decimal", in ASCII: the digits of n without leading zeros, of at most f digits
unfoldable pub digits_in : ℕ → ℕ → List ℕ
digits_in zero n = []
digits_in (suc f) n = cond (ltb n 10) ((48 + n) ∷ []) (digits_in f (n / 10) ++ ((48 + n % 10) ∷ []))

-- 64 bits have at most 20 digits
unfoldable pub decimal : ℕ → List ℕ
decimal = digits_in 20

-- a number after its word
unfoldable pub named : List ℕ → ℕ → List ℕ
named w n = w ++ decimal n

-- `anchor `
abbrev pub anchor_word : List ℕ
anchor_word = 97 ∷ 110 ∷ 99 ∷ 104 ∷ 111 ∷ 114 ∷ 32 ∷ []

-- `refused `
abbrev pub refused_word : List ℕ
refused_word = 114 ∷ 101 ∷ 102 ∷ 117 ∷ 115 ∷ 101 ∷ 100 ∷ 32 ∷ []

-- `rounds `
abbrev pub rounds_word : List ℕ
rounds_word = 114 ∷ 111 ∷ 117 ∷ 110 ∷ 100 ∷ 115 ∷ 32 ∷ []

abbrev pub space : List ℕ
space = 32 ∷ []

abbrev pub newline : List ℕ
newline = 10 ∷ []

-- a line's bytes: one space between numbers, a newline at its end
unfoldable pub line_text : Line → List ℕ
line_text (anchor_line r a n) = named anchor_word r ++ (named space a ++ (named space n ++ newline))
line_text (refused_line n) = named refused_word n ++ newline
line_text (rounds_line b t) = named rounds_word b ++ (named space t ++ newline)

-- one line after another
unfoldable pub text : List Line → List ℕ
text = joined line_text

-- "K13 gives `anchor 13 0 4` and `rounds 10 15`"
pub k13_lines : text (anchor_line 13 0 4 ∷ rounds_line 10 15 ∷ []) ≡ 97 ∷ 110 ∷ 99 ∷ 104 ∷ 111 ∷ 114 ∷ 32 ∷ 49 ∷ 51 ∷ 32 ∷ 48 ∷ 32 ∷ 52 ∷ 10 ∷ 114 ∷ 111 ∷ 117 ∷ 110 ∷ 100 ∷ 115 ∷ 32 ∷ 49 ∷ 48 ∷ 32 ∷ 49 ∷ 53 ∷ 10 ∷ []
unfolding text joined line_text named decimal digits_in
k13_lines = refl

pub text-append : (xs ys : List Line) → text (xs ++ ys) ≡ text xs ++ text ys
unfolding text
text-append = joined-append line_text

-- ---- what the code reads of an answer

-- the number in the m bytes of v from p on
abbrev pub field : List ℕ → ℕ → ℕ → ℕ
field v p m = value 0 (take m (drop p v))

-- the number of points of the record at p
unfoldable pub points_at : List ℕ → ℕ → ℕ
points_at v p = field v (p + 79) 4

-- the length of a record of n points
abbrev pub record_length : ℕ → ℕ
record_length n = 83 + n * 37 + tail_size n

-- where the record after the one at p begins
unfoldable pub next_at : List ℕ → ℕ → ℕ
next_at v p = p + record_length (points_at v p)

-- the line of the record at p: "anchor id" (round 4, author 1), .., "number of points (4)"
unfoldable pub line_at : List ℕ → ℕ → Line
line_at v p = anchor_line (field v p 4) (field v (p + 4) 1) (points_at v p)

-- the lines of the n records from p on
unfoldable pub lines_at : ℕ → List ℕ → ℕ → List Line
lines_at zero v p = []
lines_at (suc n) v p = line_at v p ∷ lines_at n v (next_at v p)

-- only a commit, kind 6, hands out anchor records
unfoldable pub said_anchors : ℕ → calls.Answer → ℕ
said_anchors k a = cond (eqb k 6) (finished a) 0

-- by the kind byte, the answer and the buffer after the call
unfoldable pub said_lines : ℕ → calls.Answer → List ℕ → List Line
said_lines k a v = lines_at (said_anchors k a) v 0 ++ refusal_lines a

unfoldable pub said_text : ℕ → calls.Answer → List ℕ → List ℕ
said_text k a v = text (said_lines k a v)

-- the n records from p on stand within v
unfoldable pub HoldsFrom : ℕ → List ℕ → ℕ → Type 0
HoldsFrom zero v p = Unit {0}
HoldsFrom (suc n) v p = (next_at v p ≤ length v) × HoldsFrom n v (next_at v p)

-- those from the front on
unfoldable pub Holds : ℕ → List ℕ → Type 0
Holds n v = HoldsFrom n v 0
