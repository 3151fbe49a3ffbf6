use mathlib.Core.Path.{refl}
use Rattle.tables_test.specs.Model.{shape, chain_no, chain-yes}
use Rattle.tables_test.proofs.shape_holds.Goals as goal

-- `tables_test::shape_holds` meets its contract.
pub returns-then-not-has_places : goal.returns-then-not-has_places
unfolding shape
returns-then-not-has_places c = chain_no _ _ _ c.has_places.ensures c.if-not-has_places.true-raw

pub returns-then-not-has_places-2 : goal.returns-then-not-has_places-2
unfolding shape
returns-then-not-has_places-2 c = chain-yes _ _ _ _ c.has_places.ensures c.if-not-has_places.false-raw (chain_no _ _ _ c.has_places-2.ensures c.if-not-has_places-2.true-raw)

pub returns : goal.returns
unfolding shape
returns c = chain-yes _ _ _ _ c.has_places.ensures c.if-not-has_places.false-raw (chain-yes _ _ _ _ c.has_places-2.ensures c.if-not-has_places-2.false-raw (refl))
