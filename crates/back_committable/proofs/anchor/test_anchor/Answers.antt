use mathlib.Core.Path.{◌∙◌, ap}
use mathlib.Core.List.{List}
use Prim.Native.Nat.{ℕ}
use Rattle.models.specs.Digest.{Fit}
use Rattle.back_history.specs.Supposing.{supposing-none}
use Rattle.back_committable.specs.Model.{tested_of}
use Rattle.back_committable.proofs.Refines.{outcome_by}
use Rattle.back_committable.proofs.anchor.test_anchor.Goals as goal

pub returns : goal.returns
returns c =
    let a = c.args in
    let fk : Fit a.dag.now.keys.now = a.dag.now.keys_fit in
    let fl : Fit a.dag.now.links.now = a.dag.now.links_fit in
    let e = c.test_supposed.ensures ∙ ap (λ (cs : List ℕ). tested_of a.dag.now.state.now a.dag.now.keys.now a.dag.now.links.now cs a.dag.now.order.now a.anchor) (supposing-none 4096 a.dag.now.certs.now) in
    record { whole = e; outcome = outcome_by a.dag.now.state.now a.dag.now.keys.now a.dag.now.links.now a.dag.now.certs.now a.dag.now.order.now fk fl c.requires.started a.anchor c.requires.used _ e }
