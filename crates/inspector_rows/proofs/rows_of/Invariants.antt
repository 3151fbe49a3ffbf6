use Rattle.std.proofs.Common.{◌≡◌, get_or}
use Rattle.commit_state.specs.Memory.{beyond}
use Rattle.inspector_rows.specs.Rows.{stacked}
use Rattle.inspector_rows.specs.Memory.{entry_row}
use Rattle.inspector_rows.proofs.rows_of.Given as goal

abbrev pub invariant-loop-k : goal.invariant-loop-k
invariant-loop-k l = l.rows ≡ stacked (λ j. entry_row (get_or l.fn.memory.entries j beyond)) l.initial.rows l.k
