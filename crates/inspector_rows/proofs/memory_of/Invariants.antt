use mathlib.Core.Path.{◌≡◌}
use Rattle.inspector_rows.specs.Memory.{entries_from}
use Rattle.inspector_rows.proofs.memory_of.Given as goal

abbrev pub invariant-loop-k : goal.invariant-loop-k
invariant-loop-k l = l.entries ≡ entries_from l.rows l.k
