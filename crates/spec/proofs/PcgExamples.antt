-- Draws of a few digests. The checker doesn't compute `bit_xor` of words, so they go by the same draws with an exclusive or that it computes.
use Rattle.std.specs.Prelude.{ℕ, zero, suc, ◌+◌, ◌*◌, ◌/◌, ◌%◌, ◌^◌, ◌<◌, ◌≡◌, refl, List, [], ◌∷◌}
use Rattle.std.proofs.Common.{ap, ap₂, ◌∙◌, arith, mod-lt, pow-suc, lit<, shr_lt}
use Rattle.std.proofs.Math.Arith.{lt-one}
use Rattle.std.specs.Int.Bits.{bit_xor, differ, xor_step, xor_zero_l}
use Rattle.laws.specs.Bytes.{be}
use Rattle.spec.specs.Pcg.{Generator, stepped, rotated_right, output, draw_of, le, seed_word, seed_state, seed_increment, seeded}
use Rattle.spec.specs.PcgRanges.{stepped-fits}

-- the first n draws
draws : ℕ → Generator → List ℕ
draws zero g = []
draws (suc n) g = draw_of g ∷ draws n (stepped g)

-- the exclusive or of n bits
xor_bits : ℕ → ℕ → ℕ → ℕ
xor_bits zero a b = 0
xor_bits (suc n) a b = xor_bits n (a / 2) (b / 2) * 2 + differ (a % 2) (b % 2)

xor_bits_lem : (n a b : ℕ) → a < 2 ^ n → b < 2 ^ n → bit_xor a b ≡ xor_bits n a b
unfolding xor_bits
xor_bits_lem zero a b h k = rw (lt-one h, lt-one k) (xor_zero_l 0)
xor_bits_lem (suc n) a b h k =
    let l : a < 2 ^ n * 2 = rw (pow-suc 2 n) at h in
    let m : b < 2 ^ n * 2 = rw (pow-suc 2 n) at k in
    xor_step a b ∙ ap (λ (x : ℕ). x * 2 + differ (a % 2) (b % 2)) (xor_bits_lem n (a / 2) (b / 2) (omega arith) (omega arith))

-- output and draws with it
computed_output : ℕ → ℕ
computed_output n = rotated_right (n / 2 ^ 122) (xor_bits 64 (n / 2 ^ 64) (n % 2 ^ 64))

output-computed : (n : ℕ) → n < 2 ^ 128 → output n ≡ computed_output n
unfolding output computed_output
output-computed n h = ap (rotated_right (n / 2 ^ 122)) (xor_bits_lem 64 (n / 2 ^ 64) (n % 2 ^ 64) (shr_lt 64 64 h) (mod-lt n (lit< tt)))

computed_draws : ℕ → Generator → List ℕ
computed_draws zero g = []
computed_draws (suc n) g = computed_output (stepped g).state ∷ computed_draws n (stepped g)

draws-computed : (n : ℕ) (g : Generator) → draws n g ≡ computed_draws n g
unfolding draws computed_draws draw_of
draws-computed zero g = refl
draws-computed (suc n) g = ap₂ ◌∷◌ (output-computed (stepped g).state (stepped-fits g)) (draws-computed n (stepped g))

-- 00 .. 00; ff .. ff; 01 02 .. 20, rand_pcg's own test; 2a and 6d at byte 16, the PCG suite's state 42 and stream 54; the same with 6c; 01 at byte 31;
-- 01 at byte 0; 1e and 13 at byte 0, for rotations by 0 and 63
rows : (draws 4 (seeded 0) ≡ 0xD4FEB4E5A4BCFE09 ∷ 0xE85A7FE071B026E6 ∷ 0x3A5B9037FE928C11 ∷ 0x7B044380D100F216 ∷ [])
    × (draws 4 (seeded 0xFFFFFFFFFFFFFFFFFFFFFFFFFFFFFFFFFFFFFFFFFFFFFFFFFFFFFFFFFFFFFFFF) ≡ 0x10C7E2E2AD774324 ∷ 0x37B886FBA8936D78 ∷ 0xAC1D4935EB33730F ∷ 0x47A176960492B6FF ∷ [])
    × (draws 4 (seeded 0x0102030405060708090A0B0C0D0E0F101112131415161718191A1B1C1D1E1F20) ≡ 0x794AD171BC85EB8D ∷ 0x8F872B6C29ED479D ∷ 0xBB46BB14F4E2E6D1 ∷ 0x5A7293535A9331F3 ∷ [])
    × (draws 6 (seeded 0x2A0000000000000000000000000000006D000000000000000000000000000000) ≡ 0x86B1DA1D72062B68 ∷ 0x1304AA46C9853D39 ∷ 0xA3670E9E0DD50358 ∷ 0xF9090E529A7DAE00 ∷ 0xC85B9FD837996F2C ∷ 0x606121F8E3919196 ∷ [])
    × (draws 6 (seeded 0x2A0000000000000000000000000000006C000000000000000000000000000000) ≡ 0x86B1DA1D72062B68 ∷ 0x1304AA46C9853D39 ∷ 0xA3670E9E0DD50358 ∷ 0xF9090E529A7DAE00 ∷ 0xC85B9FD837996F2C ∷ 0x606121F8E3919196 ∷ [])
    × (draws 2 (seeded 0x0000000000000000000000000000000000000000000000000000000000000001) ≡ 0xFE30E5A4BCFE09D4 ∷ 0xCDD0B4FFF8E3604D ∷ [])
    × (draws 2 (seeded 0x0100000000000000000000000000000000000000000000000000000000000000) ≡ 0x71564BA1920863F1 ∷ 0x06F710DFF5126DAF ∷ [])
    × (draws 1 (seeded 0x1E00000000000000000000000000000000000000000000000000000000000000) ≡ 0x478237F8B6896A3F ∷ [])
    × (draws 1 (seeded 0x1300000000000000000000000000000000000000000000000000000000000000) ≡ 0x9398ABE34AB3D0C0 ∷ [])
unfolding seeded seed_state seed_increment seed_word le be stepped rotated_right computed_draws computed_output xor_bits
rows = (
  draws-computed _ _,
  draws-computed _ _,
  draws-computed _ _,
  draws-computed _ _,
  draws-computed _ _,
  draws-computed _ _,
  draws-computed _ _,
  draws-computed _ _,
  draws-computed _ _,
)
