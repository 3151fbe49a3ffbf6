use Rattle.commit_start.specs.Start.{places_none, places_some}
use Rattle.commit_start.proofs.places_of.Goals as goal

pub returns-then-not-shape_holds : goal.returns-then-not-shape_holds
returns-then-not-shape_holds c = places_none _ _ _ c.shape_holds.ensures c.if-not-shape_holds.true-raw

pub returns : goal.returns
returns c = places_some _ _ _ c.shape_holds.ensures c.if-not-shape_holds.false-raw
