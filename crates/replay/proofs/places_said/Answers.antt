use borrow.Author.Rules.{rules}
use Rattle.replay.specs.Places.{places_none, places_more, places_one}
use Rattle.replay.proofs.places_said.Goals as goal

pub returns-then-count-lt2 : goal.returns-then-count-lt2
returns-then-count-lt2 c = places_none _ _ c.if-count-lt2.true

pub returns-then-count-gt2 : goal.returns-then-count-gt2
returns-then-count-gt2 c = places_more _ _ c.if-count-gt2.true

pub returns : goal.returns
returns c = places_one _ _ _ c.if-count-lt2.false c.if-count-gt2.false c.number_said.ensures
