use native.Mathlib.Omega.{arith}
use Rattle.stats.specs.Counters.{skipped_from, counters_of}
use Rattle.stats.proofs.MempoolPeerCounters.add_references_skipped.Goals as goal

pub returns : goal.returns
unfolding counters_of
returns c = skipped_from _ _ _ _ (omega (arith, c.well_formed.0)) c.new-skipped.ensures c.merged.ensures
