use Rattle.stats.specs.PeerStats.{none_from}
use Rattle.stats.proofs.peer_stats.MempoolPeerStats.new.Goals as goal

pub returns : goal.returns
returns c = none_from _ _ c.new.ensures
