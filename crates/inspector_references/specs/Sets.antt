-- Unions and differences of sets of peers.
use Rattle.std.specs.Prelude.{ℕ, zero, suc, ◌+◌, ◌*◌, ◌/◌, ◌%◌, ◌^◌, ◌<◌, ◌≤◌, ◌≡◌, Bool, true, false, not, ◌&&◌, ◌||◌, cond, length}
use Rattle.std.proofs.Math.Path.{refl, ap}
use Rattle.std.proofs.Common.{sym, ◌∙◌, arith, add-one, one-mul, mod-eq_of_lt, pow_pos, eq-eqb, ne_eqb}
use Rattle.std.proofs.Math.Nat.{zero-div}
use Rattle.std.proofs.Math.Dec.{eqb}
use Rattle.std.specs.Int.Bits.{bit_and, bit_or, bit_xor, or_shifted_r}
use Rattle.std.proofs.lemmas.Nat.{and_shr, and_mod, or_lt, xor_lt, and_le_l, ones_cat}
use Rattle.std.specs.Int.Count.{ones}
use Rattle.std.proofs.Math.Pow.{pow-lt}
use Rattle.laws.specs.Test.{by_test, same_or}
use Rattle.laws.specs.Scan.{any, those}
use Rattle.laws.specs.Peers.{member, two_bits, or_bit, pow_bit-same, pow_bit-other}
use Rattle.laws.specs.Tally.{xor_bit}

-- those of x that aren't in y
abbrev pub without : ℕ → ℕ → ℕ
without x y = bit_xor x (bit_and x y)

-- the union of the sets of those numbers below n that pass
unfoldable pub union_of : (ℕ → Bool) → (ℕ → ℕ) → ℕ → ℕ
union_of f s zero = 0
union_of f s (suc n) = cond (f n) (bit_or (union_of f s n) (s n)) (union_of f s n)

-- ---- the steps of the code

-- the word of one peer, in a number of w bits
pub one_shifted : (w k : ℕ) → k < w → 1 * 2 ^ k % 2 ^ w ≡ 2 ^ k
one_shifted w k l = rw (one-mul, mod-eq_of_lt (pow-lt {i = k} {j = w} l)) refl

module _ (f : ℕ → Bool) (s : ℕ → ℕ) where
  pub union_none : 0 ≡ union_of f s 0
  unfolding union_of
  union_none = refl

  module _ (i g r : ℕ) (e : g ≡ union_of f s i) (b : Bool) (is : b ≡ f i) where
    pub union_yes : (x : ℕ) → b ≡ true → x ≡ s i → r ≡ bit_or g x → r ≡ union_of f s (i + 1)
    unfolding union_of
    union_yes x t d h = rw (add-one i, union_of, ← is, t, ← e, ← d) h

    pub union_no : b ≡ false → r ≡ g → r ≡ union_of f s (i + 1)
    unfolding union_of
    union_no t h = rw (add-one i, union_of, ← is, t, ← e) h

  pub union_end : (i g n : ℕ) → g ≡ union_of f s i → i ≤ n → n ≤ i → g ≡ union_of f s n
  union_end i g n e l m = let d : i ≡ n = omega arith in rw d at e

-- tests and sets that are the same below n
pub union_same : (f g : ℕ → Bool) (s t : ℕ → ℕ) (n : ℕ) → ((i : ℕ) → i < n → f i ≡ g i) → ((i : ℕ) → i < n → s i ≡ t i) → union_of f s n ≡ union_of g t n
unfolding union_of
union_same f g s t zero a b = refl
union_same f g s t (suc n) a b =
    let e : union_of f s n ≡ union_of g t n = union_same f g s t n (λ i l. a i (omega arith)) (λ i l. b i (omega arith)) in
    λ i. cond (a n (omega arith) i) (bit_or (e i) (b n (omega arith) i)) (e i)

-- ---- who is in them

-- of two bits
or_test : (x y : ℕ) → x < 2 → y < 2 → eqb (bit_or x y) 1 ≡ (eqb x 1 || eqb y 1)
or_test = two_bits (λ x y. eqb (bit_or x y) 1 ≡ (eqb x 1 || eqb y 1)) refl refl refl refl

and-test : (x y : ℕ) → x < 2 → y < 2 → eqb (bit_and x y) 1 ≡ (eqb x 1 && eqb y 1)
and-test = two_bits (λ x y. eqb (bit_and x y) 1 ≡ (eqb x 1 && eqb y 1)) refl refl refl refl

without-test : (x y : ℕ) → x < 2 → y < 2 → eqb (without x y) 1 ≡ (eqb x 1 && not (eqb y 1))
without-test = two_bits (λ x y. eqb (without x y) 1 ≡ (eqb x 1 && not (eqb y 1))) refl refl refl refl

module _ (x y a : ℕ) where
  pub or_member : member (bit_or x y) a ≡ (member x a || member y a)
  unfolding member
  or_member = ap (λ (z : ℕ). eqb z 1) (or_bit x y a) ∙ or_test (x / 2 ^ a % 2) (y / 2 ^ a % 2) (omega arith) (omega arith)

  and-bit : bit_and x y / 2 ^ a % 2 ≡ bit_and (x / 2 ^ a % 2) (y / 2 ^ a % 2)
  and-bit = rw (and_shr x y a) (and_mod (x / 2 ^ a) (y / 2 ^ a) 1)

  pub and-member : member (bit_and x y) a ≡ (member x a && member y a)
  unfolding member
  and-member = ap (λ (z : ℕ). eqb z 1) and-bit ∙ and-test (x / 2 ^ a % 2) (y / 2 ^ a % 2) (omega arith) (omega arith)

  pub without-member : member (without x y) a ≡ (member x a && not (member y a))
  unfolding member
  without-member =
      ap (λ (z : ℕ). eqb z 1) (xor_bit x (bit_and x y) a ∙ ap (λ (z : ℕ). bit_xor (x / 2 ^ a % 2) z) and-bit)
      ∙ without-test (x / 2 ^ a % 2) (y / 2 ^ a % 2) (omega arith) (omega arith)

-- the empty set
pub none-member : (a : ℕ) → member 0 a ≡ false
unfolding member
none-member a = ne_eqb (0 / 2 ^ a % 2) 1 (λ e. let z : 0 / 2 ^ a ≡ 0 = zero-div (2 ^ a) in omega arith)

-- the set of one peer
pub one-member : (k a : ℕ) → member (2 ^ k) a ≡ eqb k a
unfolding member
one-member k a =
    same_or k a
    (λ e. rw e (eq-eqb (2 ^ a / 2 ^ a % 2) 1 (pow_bit-same a) ∙ sym (eq-eqb a a refl)))
    (λ d. ne_eqb (2 ^ k / 2 ^ a % 2) 1 (λ e. let z : 2 ^ k / 2 ^ a % 2 ≡ 0 = pow_bit-other k a (λ i. d (sym i)) in omega arith) ∙ sym (ne_eqb k a d))

-- a union
pub union_member : (f : ℕ → Bool) (s : ℕ → ℕ) (n a : ℕ) → member (union_of f s n) a ≡ any n (λ i. f i && member (s i) a)
unfolding union_of any
union_member f s zero a = none-member a
union_member f s (suc n) a =
    by_test (f n)
    (λ t. rw (t, or_member (union_of f s n) (s n) a, union_member f s n a) (or_swap (any n (λ i. f i && member (s i) a)) (member (s n) a)))
    (λ t. rw (t, union_member f s n a) refl)
  where
    or_swap : (x y : Bool) → (x || y) ≡ (y || x)
    or_swap true true = refl
    or_swap true false = refl
    or_swap false true = refl
    or_swap false false = refl

-- ---- their words

-- a union of sets of peers below m
pub union_lt : (m : ℕ) (f : ℕ → Bool) (s : ℕ → ℕ) (n : ℕ) → ((i : ℕ) → i < n → s i < 2 ^ m) → union_of f s n < 2 ^ m
unfolding union_of
union_lt m f s zero h = pow_pos m
union_lt m f s (suc n) h =
    let r : union_of f s n < 2 ^ m = union_lt m f s n (λ i l. h i (omega arith)) in
    by_test (f n) (λ t. rw t (or_lt m (union_of f s n) (s n) r (h n (omega arith)))) (λ t. rw t r)

-- one peer more, above all of them
ones_with : (n s : ℕ) → s < 2 ^ n → ones (bit_or s (2 ^ n)) ≡ suc (ones s)
unfolding ones
ones_with n s l =
    let e : ones (bit_or s (2 ^ n)) ≡ 1 + ones s = ap (λ (x : ℕ). ones (bit_or s x)) (sym (one-mul (2 ^ n))) ∙ (ap ones (or_shifted_r 1 n s l) ∙ ones_cat n 1 s l) in
    omega (arith, e)

-- the set of the numbers below n that pass: its ones are as many
pub union_ones : (n : ℕ) (f : ℕ → Bool) → ones (union_of f (λ i. 2 ^ i) n) ≡ length (those n f)
unfolding union_of those ones
union_ones zero f = refl
union_ones (suc n) f =
    let u : union_of f (λ i. 2 ^ i) n < 2 ^ n = union_lt n f (λ i. 2 ^ i) n (λ i l. pow-lt l) in
    let r : ones (union_of f (λ i. 2 ^ i) n) ≡ length (those n f) = union_ones n f in
    by_test (f n) (λ t. rw t (ones_with n (union_of f (λ i. 2 ^ i) n) u ∙ ap suc r)) (λ t. rw t r)

-- a part of a set
pub without-lt : (m x y : ℕ) → x < 2 ^ m → without x y < 2 ^ m
without-lt m x y l = xor_lt m x (bit_and x y) l (and-less m x y l)
  where
    and-less : (m x y : ℕ) → x < 2 ^ m → bit_and x y < 2 ^ m
    and-less m x y l = let h = and_le_l x y in omega arith
