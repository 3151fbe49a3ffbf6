use mathlib.Core.Path.{◌≡◌}
use Rattle.models.specs.Tables.{target_at}
use Rattle.tables_heights.specs.View.{height_at}
use Rattle.cert_certify.specs.Model.{work, handed}
use Rattle.cert_certify.proofs.certify_deps.Given as goal

-- Link after link.
abbrev pub invariant-loop-k : goal.invariant-loop-k
invariant-loop-k l =
    work l.certs l.queue l.end ≡ handed (target_at l.links l.p) (height_at l.initial.certs l.p) (work l.initial.certs l.initial.queue l.tail) l.k
