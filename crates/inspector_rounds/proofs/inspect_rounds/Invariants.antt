use mathlib.Core.Path.{◌≡◌}
use Rattle.stats.specs.Ranges.{since_of}
use Rattle.tables_test.specs.View.{view}
use Rattle.inspector_rounds.specs.Rounds.{SignersTo, Summed}
use Rattle.inspector_rounds.proofs.inspect_rounds.Given as goal

abbrev pub invariant-loop-k : goal.invariant-loop-k
invariant-loop-k l =
    Summed l.dag.state.now l.dag.keys.now l.dag.links.now l.dag.certs.now l.dag.order.now (since_of l.stats_since) l.k l.sum × SignersTo (view l.dag.state.now l.dag.keys.now l.dag.links.now l.dag.certs.now l.dag.order.now) l.k l.signers × (l.b ≡ l.initial.b)
