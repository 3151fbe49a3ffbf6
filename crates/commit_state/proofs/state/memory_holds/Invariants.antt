use Rattle.std.proofs.Common.{ℕ, ◌<◌, ◌≡◌, true}
use Rattle.commit_state.specs.Memory.{entry_holds}
use Rattle.commit_state.proofs.state.memory_holds.Given as goal

abbrev pub invariant-loop-i : goal.invariant-loop-i
invariant-loop-i l = (j : ℕ) → j < l.i → entry_holds l.m.entries l.n j ≡ true
