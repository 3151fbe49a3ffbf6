use mathlib.Core.List.{[]}
use native.Mathlib.Omega.{arith}
use Rattle.lines.specs.Said.{refused-put}
use Rattle.lines.proofs.line.put_refused.Goals as goal

pub returns : goal.returns
returns c = (refused-put _ _ _ [] _ _ 0 _ _ c.put_named-next.ensures.0 c.put_text.ensures, omega arith)
