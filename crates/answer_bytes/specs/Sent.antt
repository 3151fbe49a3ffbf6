-- Bytes that are written or only counted.
use Rattle.std.specs.Prelude.{ℕ, zero, suc, ◌+◌, ◌/◌, ◌%◌, ◌≤◌, ◌≡◌, List, [], ◌∷◌, ◌++◌, Bool, true, false, cond, set}
use Rattle.std.proofs.Math.Path.{refl, sym, ap}
use Rattle.std.proofs.Common.{◌∙◌, arith, add-zero}
use Rattle.std.proofs.Math.ListN.{length, length-append}
use Rattle.laws.specs.Test.{by_test}
use Rattle.laws.specs.Bytes.{be, be-length, written, written-length, written-append}

-- b with the bytes xs from `at` on, if they are to be written
unfoldable pub kept : Bool → List ℕ → ℕ → List ℕ → List ℕ
kept w b at xs = cond w (written b at xs) b

-- there is room for n bytes, if they are to be written
abbrev pub Room : Bool → List ℕ → ℕ → ℕ → Type 0
Room w b at n = w ≡ true → at + n ≤ length b

-- the bytes xs were sent: r the next offset, b' the buffer after it
pub record Sent (w : Bool) (b : List ℕ) (at : ℕ) (xs : List ℕ) (r : ℕ) (b' : List ℕ) : Type 0 where
  pub next : r ≡ at + length xs
  pub left : b' ≡ kept w b at xs

-- ---- laws

module _ (w : Bool) (b : List ℕ) (at : ℕ) where
  pub sent_none : Sent w b at [] at b
  unfolding kept written
  sent_none = record { next = sym (add-zero at); left = by_test w (λ t. rw t refl) (λ f. rw f refl) }

  pub sent_wrote : (xs : List ℕ) (n r : ℕ) (b' : List ℕ) → length xs ≡ n → r ≡ at + n → b' ≡ written b at xs → w ≡ true → Sent w b at xs r b'
  unfolding kept
  sent_wrote xs n r b' l e h t = record { next = e ∙ ap (λ k. at + k) (sym l); left = rw t h }

  pub sent_counted : (xs : List ℕ) (n r : ℕ) → length xs ≡ n → r ≡ at + n → w ≡ false → Sent w b at xs r b
  unfolding kept
  sent_counted xs n r l e f = record { next = e ∙ ap (λ k. at + k) (sym l); left = rw f refl }

  -- one run of bytes after another
  pub sent_then : (xs ys : List ℕ) (e r : ℕ) (b₁ b₂ : List ℕ) → Sent w b at xs e b₁ → Sent w b₁ e ys r b₂ → Sent w b at (xs ++ ys) r b₂
  unfolding kept
  sent_then xs ys e r b₁ b₂ x y = record {
    next = omega (arith, x.next, y.next, length-append xs ys);
    left = y.left ∙ by_test w (λ t. rw t (rw t at (ap (λ l. written l e ys) x.left) ∙ sym (written-append b at xs ys e x.next))) (λ f. rw f (rw f at x.left));
  }

  -- the buffer keeps its length
  pub sent_length : (xs : List ℕ) (r : ℕ) (b' : List ℕ) → Sent w b at xs r b' → length b' ≡ length b
  unfolding kept
  sent_length xs r b' x = ap length x.left ∙ by_test w (λ t. rw t (written-length b at xs)) (λ f. rw f refl)

-- two stores at different places
set_swap : (b : List ℕ) (i j x y : ℕ) → (i ≡ j → ⊥) → set (set b i x) j y ≡ set (set b j y) i x
set_swap [] i j x y d = refl
set_swap (a ∷ b) zero zero x y d = absurd (d refl)
set_swap (a ∷ b) zero (suc j) x y d = refl
set_swap (a ∷ b) (suc i) zero x y d = refl
set_swap (a ∷ b) (suc i) (suc j) x y d = ap (λ (l : List ℕ). a ∷ l) (set_swap b i j x y (λ e. d (ap suc e)))

-- a byte above what is written
set_above : (b : List ℕ) (at i v : ℕ) (xs : List ℕ) → at + length xs ≤ i → written (set b i v) at xs ≡ set (written b at xs) i v
unfolding written
set_above b at i v [] l = refl
set_above b at i v (x ∷ xs) l = ap (λ c. written c (at + 1) xs) (set_swap b i at v x (λ e. omega (arith, l, e))) ∙ set_above (set b at x) (at + 1) i v xs (omega (arith, l))

-- the lowest byte of a number first, then the others
pub number_step : (b : List ℕ) (at k v : ℕ) → written (set b (at + k) (v % 256)) at (be k (v / 256)) ≡ written b at (be (suc k) v)
unfolding be written
number_step b at k v =
    set_above b at (at + k) (v % 256) (be k (v / 256)) (omega (arith, be-length k (v / 256)))
    ∙ sym (written-append b at (be k (v / 256)) (v % 256 ∷ []) (at + k) (ap (λ n. at + n) (sym (be-length k (v / 256)))))

pub number_end : (b : List ℕ) (at v : ℕ) → written b at (be 0 v) ≡ b
unfolding be written
number_end b at v = refl
