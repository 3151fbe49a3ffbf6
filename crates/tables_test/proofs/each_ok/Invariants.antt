use Rattle.std.proofs.Common.{ℕ, ◌<◌, ◌≡◌, true}
use Rattle.models.specs.Tables.{place_at}
use Rattle.tables_test.specs.Model.{ok_at}
use Rattle.tables_test.proofs.each_ok.Given as goal

abbrev pub invariant-loop-cell : goal.invariant-loop-cell
invariant-loop-cell l = (k : ℕ) → k < l.cell-index → ok_at l.dag.state.now l.dag.keys.now l.dag.links.now l.dag.certs.now l.marks l.places (place_at l.fn.dag.order.now k) ≡ true
