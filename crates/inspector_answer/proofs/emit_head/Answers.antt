use native.Mathlib.Omega.{arith}
use Rattle.inspector_answer.specs.Answer.{head_peers, head_number, head_sent}
use Rattle.inspector_answer.proofs.emit_head.Goals as goal

pub emit_stats-at-requires : goal.emit_stats-at-requires
emit_stats-at-requires c = head_peers _ _ _ _ c.requires

pub emit_number-requires : goal.emit_number-requires
emit_number-requires c = (head_number _ _ _ _ c.requires _ _ c.emit_stats-at.ensures, omega arith)

pub returns : goal.returns
returns c = head_sent _ _ _ _ c.requires _ _ c.emit_stats-at.ensures _ _ c.emit_number.ensures
