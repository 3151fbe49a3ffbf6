-- Bytes put into a lent buffer, one run after another.
use Rattle.std.specs.Prelude.{ℕ, ◌+◌, ◌≡◌, List, [], ◌++◌, length}
use Rattle.std.proofs.Math.Path.{refl, sym}
use Rattle.std.proofs.Common.{ap, ◌∙◌, arith, add-zero, length-append}
use Rattle.laws.specs.Bytes.{written, written-append}

-- the bytes xs were put into b from `at` on: r the next offset, b' the buffer after it
pub record Put (b : List ℕ) (at : ℕ) (xs : List ℕ) (r : ℕ) (b' : List ℕ) : Type 0 where
  pub next : r ≡ at + length xs
  pub left : b' ≡ written b at xs

module _ (b : List ℕ) (at : ℕ) where
  pub put-none : Put b at [] at b
  unfolding written
  put-none = record { next = sym (add-zero at); left = refl }

  -- one run after another
  pub put_then : (xs ys : List ℕ) (e r : ℕ) (b₁ b₂ : List ℕ) → Put b at xs e b₁ → Put b₁ e ys r b₂ → Put b at (xs ++ ys) r b₂
  put_then xs ys e r b₁ b₂ x y = record {
    next = omega (arith, x.next, y.next, length-append xs ys);
    left = y.left ∙ (ap (λ (l : List ℕ). written l e ys) x.left ∙ sym (written-append b at xs ys e x.next));
  }
