use Rattle.stats.specs.PeerStats.{added_first, added_next}
use Rattle.stats.proofs.peer_stats.MempoolPeerStats.add_in_order.Goals as goal

pub returns-then-self-eq0 : goal.returns-then-self-eq0
returns-then-self-eq0 c = added_first _ _ _ c.if-self-eq0.true

pub returns : goal.returns
returns c = added_next _ _ _ _ c.if-self-eq0.false c.merged.ensures
