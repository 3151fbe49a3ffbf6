use Prim.Native.Nat.{ℕ, ◌<◌, ◌≤◌, ◌-◌}
use mathlib.Core.Path.{◌≡◌}
use mathlib.Core.Bool.{true, false}
use Rattle.dag_round_keys.specs.Key.{key, before}
use Rattle.dag_round_keys.specs.Sorted.{key_at}
use Rattle.dag_round_keys.proofs.seek.Given as goal

-- The loop's invariant: the positions below lo come before the id, those from hi up do not.
abbrev pub invariant-loop-lo : goal.invariant-loop-lo
invariant-loop-lo l =
    (l.lo ≤ l.hi) × (l.hi ≤ l.n) × ((j : ℕ) → j < l.lo → before (key_at l.keys l.order j) (key l.id 0) ≡ true) × ((j : ℕ) → l.hi ≤ j → j < l.n → before (key_at l.keys l.order j) (key l.id 0) ≡ false)

abbrev pub decreases-loop-lo : goal.decreases-loop-lo
decreases-loop-lo l = l.hi - l.lo
