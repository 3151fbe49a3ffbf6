use native.Mathlib.Omega.{arith}
use Rattle.lines.specs.Said.{code_none, code_put}
use Rattle.lines.proofs.end.put_code.Goals as goal

pub returns-then-code-eq0 : goal.returns-then-code-eq0
returns-then-code-eq0 c = (code_none _ _ c.if-code-eq0.true, omega arith)

pub returns : goal.returns
returns c = (code_put _ _ c.if-code-eq0.false _ _ c.put_refused.ensures.0, omega arith)
