use Rattle.dag_round_order.specs.Span.{span_is}
use Rattle.dag_round_order.proofs.span.span_at.Goals as goal

pub returns : goal.returns
returns c = span_is _ _ _ _ _ _ _ c.plus.ensures c.cut-low.ensures c.cut-high.ensures
