-- A certificate word made of flags and a height is read as these (01: 'Forms of the Rust').
use Rattle.std.specs.Prelude.{ℕ, ◌+◌, ◌*◌, ◌/◌, ◌%◌, ◌≤◌, ◌<◌, ◌≡◌, refl, Bool, true, false, eqb}
use Rattle.std.proofs.Common.{◌∙◌, arith}
use Rattle.std.proofs.Math.Path.{ap}
use Rattle.spec.specs.Store.{Flags, word, bit}
use Rattle.models.specs.Cert.{flags_of, height_of, topped}

-- the flags are what lies above the height
pub flags_same : (c d : ℕ) → c / 4096 ≡ d / 4096 → flags_of c ≡ flags_of d
unfolding flags_of
flags_same c d e =
    let a : c / 0x8000 % 2 ≡ d / 0x8000 % 2 = omega arith in
    let b : c / 0x4000 % 2 ≡ d / 0x4000 % 2 = omega arith in
    let g : c / 0x2000 % 2 ≡ d / 0x2000 % 2 = omega arith in
    let h : c / 0x1000 % 2 ≡ d / 0x1000 % 2 = omega arith in
    λ i. record { top = eqb (a i) 1; started = eqb (b i) 1; completed = eqb (g i) 1; committed = eqb (h i) 1 }

-- a flag is 0 or 1, times its weight
bit_is : (w : ℕ) (b : Bool) → (bit w b ≡ bit 1 b * w) × (bit 1 b ≤ 1)
bit_is w true = (omega arith, omega arith)
bit_is w false = (omega arith, omega arith)

-- and is read back
bit_back : (x : ℕ) (b : Bool) → x ≡ bit 1 b → eqb x 1 ≡ b
bit_back x true e = rw e refl
bit_back x false e = rw e refl

module _ (f : Flags) (h : ℕ) (low : h < 4096) where
  -- the word as a number
  sum : word f h ≡ bit 1 f.top * 32768 + bit 1 f.started * 16384 + bit 1 f.completed * 8192 + bit 1 f.committed * 4096 + h
  unfolding word
  sum = omega (arith, (bit_is 0x8000 f.top).0, (bit_is 0x4000 f.started).0, (bit_is 0x2000 f.completed).0, (bit_is 0x1000 f.committed).0)

  -- the flags of a word
  pub flags_word : flags_of (word f h) ≡ f
  unfolding flags_of
  flags_word =
      let a = (bit_is 1 f.top).1 in
      let b = (bit_is 1 f.started).1 in
      let c = (bit_is 1 f.completed).1 in
      let d = (bit_is 1 f.committed).1 in
      let top = bit_back (word f h / 0x8000 % 2) f.top (omega (arith, sum, a, b, c, d)) in
      let started = bit_back (word f h / 0x4000 % 2) f.started (omega (arith, sum, a, b, c, d)) in
      let completed = bit_back (word f h / 0x2000 % 2) f.completed (omega (arith, sum, a, b, c, d)) in
      let committed = bit_back (word f h / 0x1000 % 2) f.committed (omega (arith, sum, a, b, c, d)) in
      λ i. record { top = top i; started = started i; completed = completed i; committed = committed i }

  -- its height
  pub height-word : height_of (word f h) ≡ h
  unfolding height_of
  height-word = omega (arith, sum)

  -- it has 16 bits
  pub word_small : word f h < 65536
  word_small = omega (arith, sum, (bit_is 1 f.top).1, (bit_is 1 f.started).1, (bit_is 1 f.completed).1, (bit_is 1 f.committed).1)

-- the word t with the top bit set, as the code makes it
module _ (c t : ℕ) (e : t ≡ word (topped (flags_of c)) (height_of c)) where
  -- it has 16 bits
  pub topped_small : t < 65536
  unfolding height_of
  topped_small = rw e (word_small (topped (flags_of c)) (c % 4096) (omega arith))

  -- then it takes another height
  pub topped-word : (h x : ℕ) → x ≡ word (flags_of t) h → x ≡ word (topped (flags_of c)) h
  unfolding height_of
  topped-word h x d = d ∙ ap (λ (f : Flags). word f h) (ap flags_of e ∙ flags_word (topped (flags_of c)) (c % 4096) (omega arith))
