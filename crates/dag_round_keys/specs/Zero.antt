-- Words of places that are freed.
use Rattle.std.specs.Prelude.{ℕ, zero, suc, ◌+◌, ◌*◌, ◌<◌, ◌≤◌, ◌≡◌, refl, List, length, get_or, ◌⊎◌}
use Rattle.std.proofs.Common.{◌∙◌, inl, inr, ⊎_elim, arith, suc-mul, mul-le-mul_right, add-one}
use Rattle.laws.specs.Test.{le_or}
use Rattle.dag_round_keys.specs.Fill.{zeroed, filled-length, filled_off}

-- the places in the first k cells of o, in a table of w words a place, are 0
unfoldable pub emptied : List ℕ → ℕ → List ℕ → ℕ → List ℕ
emptied t w o zero = t
emptied t w o (suc k) = zeroed (emptied t w o k) (get_or o k 0 * w) w

-- ---- the code's steps

pub emptied_end : (t s : List ℕ) (w : ℕ) (o : List ℕ) (i n : ℕ) → s ≡ emptied t w o i → i ≤ n → n ≤ i → s ≡ emptied t w o n
emptied_end t s w o i n e l m = let k : i ≡ n = omega arith in rw k at e

pub emptied-more : (t s u : List ℕ) (w : ℕ) (o : List ℕ) (i q : ℕ) → s ≡ emptied t w o i → q ≡ get_or o i 0 → u ≡ zeroed s (q * w) w → u ≡ emptied t w o (i + 1)
unfolding emptied
emptied-more t s u w o i q e f g = rw (add-one i) (g ∙ rw (e, f) refl)

-- ---- lengths

pub emptied-length : (t : List ℕ) (w : ℕ) (o : List ℕ) (k : ℕ) → length (emptied t w o k) ≡ length t
unfolding emptied
emptied-length t w o zero = refl
emptied-length t w o (suc k) = filled-length _ (emptied t w o k) (get_or o k 0 * w) w ∙ emptied-length t w o k

-- a place's words are inside the table
pub place_inside : (q w n : ℕ) → q < n → q * w + w ≤ n * w
place_inside q w n l = let k : suc q * w ≤ n * w = mul-le-mul_right w l in let e : suc q * w ≡ q * w + w = suc-mul q w in omega arith

-- ---- what stays

-- the words of another place
apart : (p q w j : ℕ) → (q ≡ p → ⊥) → j < w → (q * w + j < p * w) ⊎ (p * w + w ≤ q * w + j)
apart p q w j d l = le_or p q (λ m. inr (let k = place_inside p w q (omega arith) in omega arith)) (λ m. inl (let k = place_inside q w p m in omega arith))

-- a place that isn't freed keeps its words
pub emptied_off : (t : List ℕ) (w : ℕ) (o : List ℕ) (k q j : ℕ) → ((i : ℕ) → i < k → q ≡ get_or o i 0 → ⊥) → j < w → get_or (emptied t w o k) (q * w + j) 0 ≡ get_or t (q * w + j) 0
unfolding emptied
emptied_off t w o zero q j d l = refl
emptied_off t w o (suc k) q j d l =
    filled_off _ (emptied t w o k) (get_or o k 0 * w) w (q * w + j) (λ i m e. ⊎_elim (λ x. omega arith) (λ x. omega arith) (apart (get_or o k 0) q w j (d k (omega arith)) l))
    ∙ emptied_off t w o k q j (λ i m. d i (omega arith)) l
