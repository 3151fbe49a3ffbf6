use Rattle.std.proofs.Common.{ℕ, ◌≡◌, ◌<◌, false, length, get_or}
use Rattle.models.specs.Tables.{is_used}
use Rattle.dag_round_order.proofs.free_place.Given as goal

-- `seen` marks the places of the cells so far.
abbrev pub invariant-loop-cell : goal.invariant-loop-cell
invariant-loop-cell l = (length l.seen ≡ 4096) × ((s : ℕ) → s < 4096 → get_or l.seen s false ≡ is_used l.fn.order l.cell-index s)
