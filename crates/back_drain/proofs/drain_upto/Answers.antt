use native.Mathlib.Omega.{arith}
use Rattle.back_drain.proofs.drain_upto.Goals as goal

-- The order stays until the places are zeroed.
pub zero_places-requires : goal.zero_places-requires
zero_places-requires c =
    let p = c.requires in
    record { k_in_bounds = (omega (arith, p.k_le_n.0, p.k_le_n.1), p.k_le_n.2); inside = λ i l. p.inside i (omega (arith, p.k_le_n.0)) }

pub zero_places-requires-2 : goal.zero_places-requires-2
zero_places-requires-2 c =
    let p = c.requires in
    record { k_in_bounds = (omega (arith, p.k_le_n.0, p.k_le_n.1), p.k_le_n.3); inside = λ i l. p.inside i (omega (arith, p.k_le_n.0)) }

pub zero_places-requires-3 : goal.zero_places-requires-3
zero_places-requires-3 c =
    let p = c.requires in
    record { k_in_bounds = (omega (arith, p.k_le_n.0, p.k_le_n.1), omega (arith, p.k_le_n.4)); inside = λ i l. p.inside i (omega (arith, p.k_le_n.0)) }

pub returns : goal.returns
returns c =
    record { keys = c.zero_places.ensures; links = c.zero_places-2.ensures; certs = c.zero_places-3.ensures; order = c.drain.ensures }
