use native.Mathlib.Omega.{arith}
use Rattle.lines.specs.Said.{said_holds, said_put}
use Rattle.lines.proofs.said.put_lines.Goals as goal

pub put_anchors-next-requires : goal.put_anchors-next-requires
put_anchors-next-requires c = (omega (arith, c.requires.0), said_holds _ _ _ _ c.records_of-n.ensures c.requires.1)

pub returns : goal.returns
returns c = (said_put _ _ _ _ c.records_of-n.ensures _ _ _ _ _ _ c.put_anchors-next.ensures.0 c.put_refusal.ensures.0, omega arith)
