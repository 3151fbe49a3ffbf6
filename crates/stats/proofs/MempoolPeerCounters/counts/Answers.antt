use mathlib.Core.Path.{refl}
use Rattle.spec.specs.Inspect.{counter_list}
use Rattle.stats.specs.Counters.{counters_of}
use Rattle.stats.proofs.MempoolPeerCounters.counts.Goals as goal

pub returns : goal.returns
unfolding counter_list counters_of
returns c = refl
