use Rattle.std.proofs.Common.{◌≡◌}
use Rattle.tables_heights.specs.Model.{pushed}
use Rattle.models.specs.Tables.{target_at}
use Rattle.tables_heights.proofs.push.Given as goal

abbrev pub invariant-loop-k : goal.invariant-loop-k
invariant-loop-k l = l.cells ≡ pushed (target_at l.links l.q) l.initial.cells l.v.0 l.k
