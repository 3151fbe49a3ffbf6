use Rattle.back_order.specs.Counts.{run_of, count_by_lem}
use Rattle.back_order.proofs.count_round.Goals as goal

pub count_linked-requires : goal.count_linked-requires
count_linked-requires c = let p = c.requires in run_of _ _ _ _ _ p.keys_len.1 p.keys_len.2 p.keys_len.3 p.sorted.0 c.span_at-span.ensures

pub returns : goal.returns
returns c = count_by_lem _ _ _ _ _ _ c.span_at-span.result c.span_at-span.ensures c.count_linked.ensures
