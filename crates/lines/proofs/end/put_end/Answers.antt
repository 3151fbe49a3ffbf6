use native.Mathlib.Omega.{arith}
use Rattle.lines.specs.Said.{end_put}
use Rattle.lines.proofs.end.put_end.Goals as goal

pub returns : goal.returns
returns c = (end_put _ _ _ _ _ _ _ _ _ c.rounds_of-rounds.ensures c.put_code-next.ensures.0 c.put_rounds.ensures.0, omega arith)
