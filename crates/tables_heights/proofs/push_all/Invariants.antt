use Rattle.std.proofs.Common.{◌≡◌}
use Rattle.tables_heights.specs.Model.{pushed_all}
use Rattle.tables_heights.proofs.push_all.Given as goal

abbrev pub invariant-loop-cell : goal.invariant-loop-cell
invariant-loop-cell l = l.cells ≡ pushed_all l.bottom.0 l.top.0 l.keys l.links l.certs l.fn.order l.initial.cells l.cell-index
