use native.Mathlib.Omega.{arith}
use Rattle.dag_round_keys.proofs.place.Goals as goal

-- `dag_round_keys::place` meets its contract.
pub returns : goal.returns
returns c = record { value = c.slot.ensures; upper_bound = omega (arith, c.slot.ensures, c.requires.inside _ c.requires.i_lt_n.0) }
