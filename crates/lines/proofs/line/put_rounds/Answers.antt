use native.Mathlib.Omega.{arith}
use Rattle.lines.specs.Said.{rounds-put}
use Rattle.lines.proofs.line.put_rounds.Goals as goal

pub returns : goal.returns
returns c = (rounds-put _ _ _ _ _ _ _ _ _ _ c.put_named-a1.ensures.0 c.put_named-a2.ensures.0 c.put_text.ensures, omega arith)
