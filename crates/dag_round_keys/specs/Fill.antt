-- Words written one after another into a table.
use Prim.Native.Nat.{ℕ, zero, suc, ◌+◌, ◌<◌, ◌≤◌}
use Rattle.std.specs.Prelude.{◌≡◌, List, length, get_or, set}
use Rattle.std.proofs.Math.Path.{refl}
use Rattle.std.proofs.Common.{◌∙◌, arith, add-one, get_or-set_same}
use Rattle.std.proofs.Math.ListN.{length-set}
use Rattle.std.proofs.Math.Seq.{get_or-set_other}
use Rattle.laws.specs.Test.{same_or}

-- t with n words from p on: the i-th is f i
unfoldable pub filled : (ℕ → ℕ) → List ℕ → ℕ → ℕ → List ℕ
filled f t p zero = t
filled f t p (suc n) = set (filled f t p n) (p + n) (f n)

-- n words of u, from word k on, at p
abbrev pub copied : List ℕ → ℕ → List ℕ → ℕ → ℕ → List ℕ
copied t p u k n = filled (λ i. get_or u (k + i) 0) t p n

-- n words from p on are 0
abbrev pub zeroed : List ℕ → ℕ → ℕ → List ℕ
zeroed t p n = filled (λ i. 0) t p n

-- one word more, in a loop
pub filled_more : (f : ℕ → ℕ) (t s : List ℕ) (p i : ℕ) → s ≡ filled f t p i → set s (p + i) (f i) ≡ filled f t p (i + 1)
unfolding filled
filled_more f t s p i e = rw (add-one i, e) refl

-- no word is left
pub filled_end : (f : ℕ → ℕ) (t s : List ℕ) (p i n : ℕ) → s ≡ filled f t p i → i ≤ n → n ≤ i → s ≡ filled f t p n
filled_end f t s p i n e l m = let k : i ≡ n = omega arith in rw k at e

module _ (f : ℕ → ℕ) (t : List ℕ) (p : ℕ) where
  -- as long as t
  pub filled-length : (n : ℕ) → length (filled f t p n) ≡ length t
  unfolding filled
  filled-length zero = refl
  filled-length (suc n) = length-set (filled f t p n) (p + n) (f n) ∙ filled-length n

  -- the words that were written
  pub filled_in : (n i : ℕ) → p + n ≤ length t → i < n → get_or (filled f t p n) (p + i) 0 ≡ f i
  unfolding filled
  filled_in zero i r l = absurd (omega arith)
  filled_in (suc n) i r l =
      same_or i n
      (λ e. rw e (get_or-set_same (filled f t p n) (p + n) (f n) 0 (omega (arith, filled-length n))))
      (λ d. get_or-set_other (filled f t p n) (p + n) (p + i) (f n) 0 (λ e. d (omega arith)) ∙ filled_in n i (omega arith) (omega arith))

  -- the others stay
  pub filled_off : (n y : ℕ) → ((i : ℕ) → i < n → y ≡ p + i → ⊥) → get_or (filled f t p n) y 0 ≡ get_or t y 0
  unfolding filled
  filled_off zero y d = refl
  filled_off (suc n) y d = get_or-set_other (filled f t p n) (p + n) y (f n) 0 (d n (omega arith)) ∙ filled_off n y (λ i l. d i (omega arith))
