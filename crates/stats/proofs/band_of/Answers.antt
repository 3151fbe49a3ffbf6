use Rattle.stats.specs.Counters.{band_low, band_middle, band_high}
use Rattle.stats.proofs.band_of.Goals as goal

pub returns-then-count-lt10 : goal.returns-then-count-lt10
returns-then-count-lt10 c = band_low _ c.if-count-lt10.true

pub returns-then-count-lt100 : goal.returns-then-count-lt100
returns-then-count-lt100 c = band_middle _ c.if-count-lt10.false c.if-count-lt100.true

pub returns : goal.returns
returns c = band_high _ c.if-count-lt10.false c.if-count-lt100.false
