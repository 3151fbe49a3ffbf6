use native.Mathlib.Omega.{arith}
use Rattle.models.specs.Tables.{inside_keys}
use Rattle.dag_round_order.specs.Span.{cut_is}
use Rattle.dag_round_order.proofs.span.cut.Goals as goal

-- The least key of the round is looked up.
pub seek-requires : goal.seek-requires
seek-requires c =
    let a = c.args in
    let p = c.requires in
    record { n_in_bounds = (p.keys_len.1, (omega arith, inside_keys a.keys.now a.order.now a.n p.keys_len.0 p.keys_len.2)); sorted = p.sorted }

pub returns : goal.returns
returns c = cut_is _ _ _ _ _ c.seek.ensures
