-- The certificate word read as flags and height (01: 'Forms of the Rust').
use Rattle.std.specs.Prelude.{ℕ, zero, suc, ◌+◌, ◌*◌, ◌/◌, ◌%◌, ◌^◌, ◌<◌, ◌≡◌, refl, Bool, true, ◌&&◌, ◌||◌, eqb, ltb}
use Rattle.std.proofs.Common.{sym, ◌∙◌, ap, ap₂, arith, mod-eq_of_lt}
use Rattle.std.specs.Int.Bits.{bit_or, or_zero_r}
use Rattle.std.proofs.lemmas.Nat.{or_mod, or_lt}
use Rattle.std.proofs.Math.Nat.{div-div-eq-div-mul}
use Rattle.laws.specs.Peers.{two_bits, or_bit}
use Rattle.spec.specs.Store.{Flags, word, bit}

-- the bit of weight w
abbrev pub bit_of : ℕ → ℕ → Bool
bit_of w c = eqb (c / w % 2) 1

unfoldable pub flags_of : ℕ → Flags
flags_of c = record { top = bit_of 0x8000 c; started = bit_of 0x4000 c; completed = bit_of 0x2000 c; committed = bit_of 0x1000 c }

unfoldable pub height_of : ℕ → ℕ
height_of c = c % 4096

-- another height under the same flags
unfoldable pub with_height : ℕ → ℕ → ℕ
with_height c h = c / 4096 * 4096 + h

-- 01, cert.rs: "Certified: height above 0. Proved: top bit as well."
unfoldable pub has_proof : ℕ → Bool
has_proof c = ltb 0 (height_of c) && (flags_of c).top

-- the flags of either
unfoldable pub joined : Flags → Flags → Flags
joined f g = record { top = f.top || g.top; started = f.started || g.started; completed = f.completed || g.completed; committed = f.committed || g.committed }

-- a point certified directly; with links; committed
unfoldable pub topped : Flags → Flags
topped f = record { top = true; started = f.started; completed = f.completed; committed = f.committed }

unfoldable pub linked : Flags → Flags
linked f = record { top = f.top; started = true; completed = true; committed = f.committed }

unfoldable pub marked : Flags → Flags
marked f = record { top = f.top; started = f.started; completed = f.completed; committed = true }

-- the word with the committed bit
unfoldable pub committed_word : ℕ → ℕ
committed_word c = word (marked (flags_of c)) (height_of c)

-- what a bit adds to the word
bit_is : (w x : ℕ) → x < 2 → bit w (eqb x 1) ≡ x * w
bit_is w zero l = omega arith
bit_is w (suc zero) l = omega arith
bit_is w (suc (suc x)) l = absurd (omega arith)

-- the word under the height
halve : (w c : ℕ) → 0 < w → c / w ≡ c / (w * 2) * 2 + c / w % 2
halve w c l = rw (sym (div-div-eq-div-mul c w 2)) (omega arith)

upper : (c a b d e : ℕ) → e < 2 → a ≡ b * 2 + a % 2 → b ≡ d * 2 + b % 2 → d ≡ e * 2 + d % 2
    → e % 2 * 0x8000 + d % 2 * 0x4000 + b % 2 * 0x2000 + a % 2 * 0x1000 ≡ a * 4096
upper c a b d e l p q r = let m : e % 2 ≡ e = mod-eq_of_lt l in omega (arith, m)

flags_are : (c h : ℕ) → c < 65536 → word (flags_of c) h ≡ c / 4096 * 4096 + h
unfolding word flags_of
flags_are c h l =
    rw (bit_is 0x8000 (c / 0x8000 % 2) (omega arith), bit_is 0x4000 (c / 0x4000 % 2) (omega arith), bit_is 0x2000 (c / 0x2000 % 2) (omega arith), bit_is 0x1000 (c / 0x1000 % 2) (omega arith))
    (ap (λ (x : ℕ). x + h) (upper c (c / 0x1000) (c / 0x2000) (c / 0x4000) (c / 0x8000) (omega arith) (halve 0x1000 c (omega arith)) (halve 0x2000 c (omega arith)) (halve 0x4000 c (omega arith))))

-- another height leaves the flags of a word of 16 bits
pub with_height_lem : (c h : ℕ) → c < 65536 → with_height c h ≡ word (flags_of c) h
unfolding with_height
with_height_lem c h l = sym (flags_are c h l)

-- the word says no more than its flags and its height
pub word_of : (c : ℕ) → c < 65536 → word (flags_of c) (height_of c) ≡ c
unfolding height_of
word_of c l = flags_are c (c % 4096) l ∙ omega arith

or_is : (x y : ℕ) → x < 2 → y < 2 → eqb (bit_or x y) 1 ≡ (eqb y 1 || eqb x 1)
or_is = two_bits (λ x y. eqb (bit_or x y) 1 ≡ (eqb y 1 || eqb x 1)) refl refl refl refl

or_flag : (c m k : ℕ) → eqb (bit_or c m / 2 ^ k % 2) 1 ≡ (eqb (m / 2 ^ k % 2) 1 || eqb (c / 2 ^ k % 2) 1)
or_flag c m k = ap (λ (x : ℕ). eqb x 1) (or_bit c m k) ∙ or_is (c / 2 ^ k % 2) (m / 2 ^ k % 2) (omega arith) (omega arith)

-- setting flags
pub with_flags : (c m : ℕ) → c < 65536 → m < 65536 → height_of m ≡ 0 → bit_or c m ≡ word (joined (flags_of m) (flags_of c)) (height_of c)
unfolding flags_of height_of joined
with_flags c m l k z = sym (word_of (bit_or c m) (or_lt 16 c m l k)) ∙ ap₂ word flags height
  where
    flags : flags_of (bit_or c m) ≡ joined (flags_of m) (flags_of c)
    flags = rw (or_flag c m 15, or_flag c m 14, or_flag c m 13, or_flag c m 12) refl

    height : height_of (bit_or c m) ≡ height_of c
    height = or_mod c m 12 ∙ (ap (bit_or (c % 4096)) z ∙ or_zero_r (c % 4096))

pub with_top : (c : ℕ) → c < 65536 → bit_or c 0x8000 ≡ word (topped (flags_of c)) (height_of c)
unfolding topped joined flags_of height_of
with_top c l = with_flags c 0x8000 l (omega arith) refl

pub with_deps : (c : ℕ) → c < 65536 → bit_or c 0x6000 ≡ word (linked (flags_of c)) (height_of c)
unfolding linked joined flags_of height_of
with_deps c l = with_flags c 0x6000 l (omega arith) refl

pub with_committed : (c : ℕ) → c < 65536 → bit_or c 0x1000 ≡ word (marked (flags_of c)) (height_of c)
unfolding marked joined flags_of height_of
with_committed c l = with_flags c 0x1000 l (omega arith) refl
