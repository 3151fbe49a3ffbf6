-- States have 128 bits, draws 64.
use Rattle.std.specs.Prelude.{ℕ, ◌+◌, ◌-◌, ◌*◌, ◌/◌, ◌%◌, ◌^◌, ◌<◌, ◌≡◌}
use Rattle.std.proofs.Common.{sym, ◌∙◌, arith, add_comm, mod-lt, lit<, pow_pos, pow-add, shr_lt}
use Rattle.std.proofs.Math.Arith.{digits_lt}
use Rattle.std.specs.Int.Bits.{bit_xor}
use Rattle.std.proofs.lemmas.Nat.{xor_lt}
use Rattle.spec.specs.Pcg.{Generator, multiplier, stepped, rotated_right, output, draw_of}

-- a state that was stepped has 128 bits
pub stepped-fits : (g : Generator) → (stepped g).state < 2 ^ 128
unfolding stepped
stepped-fits g = mod-lt (g.state * multiplier + g.increment) (lit< tt)

-- a rotation by less than 64 keeps 64 bits
rotated_fits : (k x : ℕ) → k < 64 → x < 2 ^ 64 → rotated_right k x < 2 ^ 64
unfolding rotated_right
rotated_fits k x l h =
    let e : 64 - k + k ≡ 64 = omega arith in
    let f : k + (64 - k) ≡ 64 = omega arith in
    let low : x / 2 ^ k < 2 ^ (64 - k) = shr_lt (64 - k) k (rw e h) in
    let whole : 2 ^ k * 2 ^ (64 - k) ≡ 2 ^ 64 = sym (pow-add 2 k (64 - k)) ∙ rw f in
    rw (add_comm (x / 2 ^ k) (x % 2 ^ k * 2 ^ (64 - k)), sym whole) (digits_lt (mod-lt x (pow_pos k)) low)

-- the top 6 bits are below 64
output-fits : (n : ℕ) → n < 2 ^ 128 → output n < 2 ^ 64
unfolding output
output-fits n h =
    rotated_fits (n / 2 ^ 122) (bit_xor (n / 2 ^ 64) (n % 2 ^ 64)) (shr_lt 6 122 h) (xor_lt 64 (n / 2 ^ 64) (n % 2 ^ 64) (shr_lt 64 64 h) (mod-lt n (lit< tt)))

pub draw-fits : (g : Generator) → draw_of g < 2 ^ 64
unfolding draw_of
draw-fits g = output-fits (stepped g).state (stepped-fits g)
