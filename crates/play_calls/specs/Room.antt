-- The buffer that a played call is lent.
use Rattle.std.specs.Prelude.{ℕ, ◌+◌, ◌<◌, ◌≤◌, ◌≡◌, List, ◌++◌, length, drop, set, replicate}
use Rattle.std.proofs.Common.{ap, ◌∙◌, append-nil, arith}
use Rattle.std.proofs.lemmas.List.{length-replicate}
use Rattle.std.proofs.Math.Seq.{drop-length}
use Rattle.std.proofs.lemmas.List.Edits.{fill_more}

-- 02, N5: "It lends .., for each commit or remove, an answer buffer of 4,096 bytes": of n zeros
unfoldable pub zeros : ℕ → List ℕ
zeros n = replicate n 0

-- ---- laws

pub zeros-length : (n : ℕ) → length (zeros n) ≡ n
unfolding zeros
zeros-length n = length-replicate n 0

-- the buffer b with its first i bytes zeroed
abbrev pub Cleared : List ℕ → ℕ → List ℕ → Type 0
Cleared b i d = d ≡ replicate i 0 ++ drop i b

pub cleared_more : (b d : List ℕ) (i n : ℕ) → n ≡ length b → Cleared b i d → i < n → Cleared b (i + 1) (set d i 0)
cleared_more b d i n m e l = ap (λ (x : List ℕ). set x i 0) e ∙ fill_more i 0 b (omega arith)

pub cleared-all : (b d : List ℕ) (i n : ℕ) → n ≡ length b → Cleared b i d → i ≤ n → n ≤ i → d ≡ zeros (length b)
unfolding zeros
cleared-all b d i n m e l g =
    let k : i ≡ length b = omega arith in
    e ∙ (ap (λ (j : ℕ). replicate j 0 ++ drop j b) k ∙ (ap (λ (x : List ℕ). replicate (length b) 0 ++ x) (drop-length b) ∙ append-nil (replicate (length b) 0)))
