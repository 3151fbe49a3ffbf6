use Rattle.trace.specs.PeerStats.{peer_is}
use Rattle.trace.proofs.peer_stats.peer_of.Goals as goal

pub returns : goal.returns
returns c = peer_is _ _ _ c.byte_of-peer.ensures.0 c.number_of-first.ensures c.number_of-last.ensures c.counters_of-cumulative.ensures c.number_of-score.ensures
