-- 02, N8: "PCG XSL RR 128/64 from O'Neill's PCG paper". "The definition is over whole numbers modulo 2 to the power 128."
use Rattle.std.specs.Prelude.{ℕ, ◌+◌, ◌-◌, ◌*◌, ◌/◌, ◌%◌, ◌^◌, List, [], ◌∷◌, take, drop}
use Rattle.std.specs.Int.Bits.{bit_xor}
use Rattle.laws.specs.Bytes.{be}

-- "multiplier 0x2360ED051FC65DA44385DF649FCCF645"
abbrev pub multiplier : ℕ
multiplier = 0x2360ED051FC65DA44385DF649FCCF645

-- two numbers of 128 bits
pub record Generator : Type 0 where
  pub state : ℕ
  pub increment : ℕ

-- one step, "with multiplication and addition that wrap"
unfoldable pub stepped : Generator → Generator
stepped g = record { state = (g.state * multiplier + g.increment) % 2 ^ 128; increment = g.increment }

-- x of 64 bits, rotated right by k
unfoldable pub rotated_right : ℕ → ℕ → ℕ
rotated_right k x = x / 2 ^ k + x % 2 ^ k * 2 ^ (64 - k)

-- XSL RR: the exclusive or of the two halves, rotated right by the top 6 bits
unfoldable pub output : ℕ → ℕ
output n = rotated_right (n / 2 ^ 122) (bit_xor (n / 2 ^ 64) (n % 2 ^ 64))

-- "each draw steps and then puts out"
unfoldable pub draw_of : Generator → ℕ
draw_of g = output (stepped g).state

-- the number whose bytes are these, little-endian
unfoldable pub le : List ℕ → ℕ
le [] = 0
le (b ∷ bs) = b + 256 * le bs

-- "The seed is the anchor's digest as four little-endian 64-bit words": word k of a digest's 32 bytes
unfoldable pub seed_word : ℕ → ℕ → ℕ
seed_word d k = le (take 8 (drop (8 * k) (be 32 d)))

-- "state low, state high, increment low, increment high, with the increment's lowest bit set"
unfoldable pub seed_state : ℕ → ℕ
seed_state d = seed_word d 1 * 2 ^ 64 + seed_word d 0

unfoldable pub seed_increment : ℕ → ℕ
seed_increment d = (seed_word d 3 * 2 ^ 64 + seed_word d 2) / 2 * 2 + 1

-- "The first state is the seed's plus the increment, stepped once"
unfoldable pub seeded : ℕ → Generator
seeded d = stepped (record { state = (seed_state d + seed_increment d) % 2 ^ 128; increment = seed_increment d })
