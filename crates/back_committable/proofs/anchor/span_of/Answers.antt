use mathlib.Core.Path.{◌∙◌, ap}
use Rattle.dag_round_order.specs.Span.{below}
use Rattle.back_committable.specs.Model.{span_by}
use Rattle.back_committable.proofs.anchor.span_of.Goals as goal

pub returns : goal.returns
returns c =
    let a = c.args in
    span_by a.dag.now.state.now a.dag.now.keys.now a.dag.now.order.now a.round.0 _ _ _ _ c.history_limit-limit.ensures c.max-lowest.ensures c.cut-low.ensures (c.cut-high.ensures ∙ ap (below a.dag.now.keys.now a.dag.now.order.now a.dag.now.state.now.count) c.plus.ensures)
