use mathlib.Core.Path.{sym, ◌∙◌, ap}
use Rattle.models.specs.Digest.{Fit}
use Rattle.back_history.specs.Supposing.{supposing}
use Rattle.back_committable.specs.Model.{history_span, tested_by, gathered_span, anchor-words, code_ready}
use Rattle.back_committable.proofs.anchor.test_supposed.Goals as goal

pub round_at-round-requires : goal.round_at-round-requires
round_at-round-requires c =
    let a = c.args in
    anchor-words a.dag.now.state.now a.dag.now.keys.now a.dag.now.links.now a.dag.now.certs.now a.dag.now.order.now c.requires.started a.anchor c.requires.used

pub anchor_code-check-requires : goal.anchor_code-check-requires
anchor_code-check-requires c =
    let a = c.args in
    let fk : Fit a.dag.now.keys.now = a.dag.now.keys_fit in
    let fl : Fit a.dag.now.links.now = a.dag.now.links_fit in
    let span = gathered_span a.dag.now.state.now a.dag.now.keys.now a.dag.now.links.now (supposing a.taken.now a.dag.now.certs.now) a.dag.now.order.now a.anchor c.gather_history-g.result c.gather_history-g.ensures in
    let told = code_ready a.dag.now.state.now a.dag.now.keys.now a.dag.now.links.now a.dag.now.certs.now a.dag.now.order.now c.requires.started a.anchor c.requires.used fk fl c.round_at-round.result.0 c.gather_history-g.result.span c.round_at-round.ensures (span ∙ ap (history_span a.dag.now.state.now a.dag.now.keys.now a.dag.now.order.now) (sym c.round_at-round.ensures)) in record { range = told.0; keys_len = told.1 }

pub returns : goal.returns
returns c =
    let a = c.args in
    tested_by a.dag.now.state.now a.dag.now.keys.now a.dag.now.links.now (supposing a.taken.now a.dag.now.certs.now) a.dag.now.order.now a.anchor c.round_at-round.result.0 c.gather_history-g.result c.anchor_code-check.result c.round_at-round.ensures c.gather_history-g.ensures c.anchor_code-check.ensures
