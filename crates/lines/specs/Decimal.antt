-- Numbers in decimal: io's digits, and how many there are.
use Prim.Native.Nat.{ℕ, zero, suc, ◌+◌, ◌-◌, ◌*◌, ◌/◌, ◌%◌, ◌^◌, ◌≤◌, ◌<◌}
use Rattle.std.specs.Prelude.{◌≡◌, refl, List, [], ◌∷◌, ◌++◌, length, take}
use Rattle.std.proofs.Common.{sym, ap, ◌∙◌, subst, pow-suc, mod-eq_of_lt, lit<, length-append, lt-ltb, le-ltb}
use native.Mathlib.Omega.{arith}
use Rattle.std.proofs.Math.Nat.{one-le-pow}
use Rattle.laws.specs.Test.{le_or}
use Rattle.io.specs.Digits.{last_digits, IsDigitCount}
use Rattle.lines.specs.Lines.{digits_in, decimal, named, space}
use Rattle.lines.specs.Put.{Put, put_then}

-- one digit less
below_tenth : (n p q : ℕ) → q ≡ p * 10 → n < q → n / 10 < p
below_tenth n p q e l = omega arith

above_tenth : (n p q : ℕ) → q ≡ p * 10 → q ≤ n → p ≤ n / 10
above_tenth n p q e l = omega arith

ten-more : (n p q : ℕ) → q ≡ p * 10 → 1 ≤ p → q ≤ n → 10 ≤ n
ten-more n p q e h l = omega arith

one_less : (k : ℕ) → k ≡ suc k - 1
one_less k = omega arith

-- two digits or more are ten or more
two_digits : (n k : ℕ) → IsDigitCount 10 1 n (suc (suc k)) → 10 ^ suc k ≤ n
two_digits n k w = subst (λ j. 10 ^ j ≤ n) (sym (one_less (suc k))) (w.2 (omega arith))

ten_or_more : (n k : ℕ) → IsDigitCount 10 1 n (suc (suc k)) → 10 ≤ n
ten_or_more n k w = ten-more n (10 ^ k) (10 ^ suc k) (pow-suc 10 k) (one-le-pow k 10 (lit< tt)) (two_digits n k w)

fewest_less : (n k : ℕ) → IsDigitCount 10 1 n (suc (suc k)) → IsDigitCount 10 1 (n / 10) (suc k)
fewest_less n k w = (
  omega arith,
  below_tenth n (10 ^ suc k) (10 ^ suc (suc k)) (pow-suc 10 (suc k)) w.1,
  λ t. subst (λ j. 10 ^ j ≤ n / 10) (one_less k) (above_tenth n (10 ^ k) (10 ^ suc k) (pow-suc 10 k) (two_digits n k w)),
)

-- the fewest digits that hold n are its decimal
fewest_are : (f k n : ℕ) → k ≤ f → IsDigitCount 10 1 n k → last_digits 10 k n ≡ digits_in f n
unfolding digits_in
fewest_are f zero n l w = absurd (omega (arith, w.0))
fewest_are zero (suc k) n l w = absurd (omega arith)
fewest_are (suc f) (suc zero) n l w = let h : n < 10 = w.1 in rw (mod-eq_of_lt h, lt-ltb n 10 h) refl
fewest_are (suc f) (suc (suc k)) n l w =
    rw (le-ltb n 10 (ten_or_more n k w), lt-ltb (n % 10) 10 (omega arith)) (ap (λ (x : List ℕ). x ++ ((48 + n % 10) ∷ [])) (fewest_are f (suc k) (n / 10) (omega arith) (fewest_less n k w)))

-- and no more than any digits that hold it
fewest_few : (k j n : ℕ) → IsDigitCount 10 1 n (suc k) → n < 10 ^ suc j → k ≤ j
fewest_few zero j n w l = omega arith
fewest_few (suc k) zero n w l = absurd (omega (arith, ten_or_more n k w))
fewest_few (suc k) (suc j) n w l = omega (arith, fewest_few k j (n / 10) (fewest_less n k w) (below_tenth n (10 ^ suc j) (10 ^ suc (suc j)) (pow-suc 10 (suc j)) l))

-- at most as many as hold it
digits_few : (f k n : ℕ) → n < 10 ^ suc k → length (digits_in f n) ≤ suc k
unfolding digits_in
digits_few zero k n l = omega arith
digits_few (suc f) k n l = le_or 10 n (λ h. rw (le-ltb n 10 h) (more k l h (λ j. digits_few f j (n / 10)))) (λ h. rw (lt-ltb n 10 h) (omega arith))
  where
    more : (k : ℕ) → n < 10 ^ suc k → 10 ≤ n → ((j : ℕ) → n / 10 < 10 ^ suc j → length (digits_in f (n / 10)) ≤ suc j) → length (digits_in f (n / 10) ++ ((48 + n % 10) ∷ [])) ≤ suc k
    more zero l h i = absurd (omega arith)
    more (suc k) l h i = rw (length-append (digits_in f (n / 10)) ((48 + n % 10) ∷ [])) (omega (arith, i k (below_tenth n (10 ^ suc k) (10 ^ suc (suc k)) (pow-suc 10 (suc k)) l)))

-- a word has at most 10 digits, a byte 3
word-few : (n : ℕ) → n < 2 ^ 32 → length (decimal n) ≤ 10
unfolding decimal
word-few n l = digits_few 20 9 n (omega arith)

byte_few : (n : ℕ) → n < 256 → length (decimal n) ≤ 3
unfolding decimal
byte_few n l = digits_few 20 2 n (omega arith)

pub named_byte : (n : ℕ) → n < 256 → length (named space n) ≤ 4
unfolding named
named_byte n l = omega (arith, byte_few n l)

-- what io leaves in its twenty bytes
module _ (n k : ℕ) (ds : List ℕ) (l : n < 2 ^ 32) (fewest : IsDigitCount 10 1 n k) (is : take k ds ≡ last_digits 10 k n) where
  digits_are : take k ds ≡ decimal n
  unfolding decimal
  digits_are = is ∙ fewest_are 20 k n (few k fewest) fewest
    where
      few : (k : ℕ) → IsDigitCount 10 1 n k → k ≤ 20
      few zero w = omega arith
      few (suc k) w = omega (arith, fewest_few k 9 n w (omega arith))

  pub digits_room : length (take k ds) ≤ 10
  digits_room = rw digits_are (word-few n l)

  pub decimal-put : (b b' : List ℕ) (at r : ℕ) → Put b at (take k ds) r b' → Put b at (decimal n) r b' × (r ≤ at + 10)
  decimal-put b b' at r p = (subst (λ (x : List ℕ). Put b at x r b') digits_are p, omega (arith, p.next, digits_room))

pub named_put : (b b₁ b₂ w : List ℕ) (n at e r : ℕ) → Put b at w e b₁ → Put b₁ e (decimal n) r b₂ → Put b at (named w n) r b₂
unfolding named
named_put b b₁ b₂ w n at e r x y = put_then b at w (decimal n) e r b₁ b₂ x y
