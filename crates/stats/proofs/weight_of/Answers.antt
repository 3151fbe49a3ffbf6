use mathlib.Core.Path.{ap}
use mathlib.Core.List.{[]}
use lib.ListN.{get_or}
use Rattle.spec.specs.Inspect.{weight, weights}
use Rattle.stats.proofs.weight_of.Goals as goal

pub returns : goal.returns
unfolding weight
returns c = ap (λ j. get_or (get_or weights c.args.counter []) j 0) c.band_of-band.ensures.0
