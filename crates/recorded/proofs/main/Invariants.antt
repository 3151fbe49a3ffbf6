use mathlib.Core.Path.{◌≡◌}
use lib.ListN.{length}
use Rattle.recorded.proofs.main.Given as goal

abbrev pub invariant-loop-number : goal.invariant-loop-number
invariant-loop-number l = 65536 ≡ length l.input
