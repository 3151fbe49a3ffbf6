use Rattle.trace.specs.Anchors.{anchor_is}
use Rattle.trace.proofs.anchors.anchor_head.Goals as goal

pub returns : goal.returns
returns c = anchor_is _ _ _ c.id_of-anchor.ensures c.id_of-proof.ensures c.byte_of-executable.ensures.0 c.number_of-previous.ensures c.number_of-points.ensures
