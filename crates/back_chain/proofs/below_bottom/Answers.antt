use Rattle.back_chain.specs.Model.{below-author, below-round}
use Rattle.back_chain.proofs.below_bottom.Goals as goal

pub returns-then-id-ge-PEER_SLOTS : goal.returns-then-id-ge-PEER_SLOTS
returns-then-id-ge-PEER_SLOTS c = search below-author

pub returns : goal.returns
returns c = search below-round
