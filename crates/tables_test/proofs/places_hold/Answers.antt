use Rattle.tables_test.specs.Model.{places_none, places_some}
use Rattle.tables_test.proofs.places_hold.Goals as goal

-- `tables_test::places_hold` meets its contract.
pub returns-then-places-eq0 : goal.returns-then-places-eq0
returns-then-places-eq0 c = places_none _ c.if-places-eq0.true

pub returns : goal.returns
returns c = places_some _ c.if-places-eq0.false
