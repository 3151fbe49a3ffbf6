-- The answer of a remove, as bytes (01: "Remove's answer").
use Rattle.std.specs.Prelude.{ℕ, ◌<◌, ◌≤◌, ◌≡◌, List, Bool, true, false, length}
use Rattle.std.proofs.Math.Option.{Option}
use Rattle.laws.specs.Bytes.{written}
use Rattle.spec.specs.Store.{Store}
use Rattle.spec.specs.Inspect.{remove_bytes}

-- what the answer leaves of the buffer b, and whether it has room there: else every byte is as it was
pub record Answered (v : Store) (low : ℕ) (since : Option ℕ) (b : List ℕ) (fits : Bool) (b' : List ℕ) : Type 0 where
  pub whole : fits ≡ true → (length (remove_bytes v low since) ≤ length b) × (b' ≡ written b 0 (remove_bytes v low since))
  pub short : fits ≡ false → (length b < length (remove_bytes v low since)) × (b' ≡ b)
