use Rattle.std.specs.Prelude.{◌≡◌, ℕ, ◌-◌, ◌*◌, ◌/◌, ◌%◌, ◌^◌, ◌<◌, bit_or}
use Rattle.std.specs.Int.{rotate_right, w64}
use Rattle.std.proofs.Common.{refl, ap₂, ◌∙◌, arith}
use Rattle.std.specs.Int.Bits.{or_self}
use Rattle.laws.specs.Test.{same_or}
use Rattle.spec.specs.Pcg.{rotated_right}
use Rattle.pcg.specs.Output.{rotated_none, rotated}
use Rattle.pcg.proofs.pcg.rotate_right.Goals as goal

-- as the library rotates
turned : (x k : ℕ) → x < 2 ^ 64 → k < 64 → rotate_right w64 x k ≡ rotated_right k x
turned x k h l =
    same_or k 0
    (λ e. let u : x / 1 ≡ x = omega arith in
    let v : x * 1 % 2 ^ 64 ≡ x = omega arith in
    rw e (ap₂ bit_or u v ∙ (or_self x ∙ rotated_none x 0 refl)))
    (λ n. let i : k % 64 ≡ k = omega arith in
    let j : (64 - k % 64) % 64 ≡ 64 - k = omega arith in
    ap₂ (λ (a b : ℕ). bit_or (x / 2 ^ a) (x * 2 ^ b % 2 ^ 64)) i j ∙ rotated x k h l)

pub returns : goal.returns
returns c = let e = turned c.args.x c.args.k c.ranges.x.fits c.requires in cc
