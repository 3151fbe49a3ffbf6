use Rattle.std.proofs.Common.{ℕ, ◌+◌, ◌-◌, ◌/◌, ◌%◌, ◌<◌, ◌≤◌, ◌≡◌, List, refl, sym, subst, ◌∙◌, set, arith}
use Rattle.laws.specs.Bytes.{be, written}
use Rattle.answer_bytes.specs.Sent.{number_step, number_end}
use Rattle.answer_bytes.proofs.put_number.Goals as goal

-- one byte more
step : (b : List ℕ) (at k x : ℕ) → 0 < k → written (set b (at + (k - 1)) (x % 256)) at (be (k - 1) (x / 256)) ≡ written b at (be k x)
step b at k x h = subst (λ n. written (set b (at + (k - 1)) (x % 256)) at (be (k - 1) (x / 256)) ≡ written b at (be n x)) (omega (arith, h)) (number_step b at (k - 1) x)

-- no byte is left
ended : (b c : List ℕ) (at k x : ℕ) → k ≤ 0 → written b at (be k x) ≡ c → b ≡ c
ended b c at k x h e = sym (number_end b at x) ∙ subst (λ n. written b at (be n x) ≡ c) (omega (arith, h)) e

pub loop-k-preserved : goal.loop-k-preserved
loop-k-preserved c = step c.loop-k.b c.args.at c.loop-k.k c.loop-k.x c.loop-k-test.true ∙ c.loop-k.invariant

pub returns : goal.returns
returns c = (refl, ended _ _ _ _ _ c.loop-k-test.false c.loop-k.invariant)
