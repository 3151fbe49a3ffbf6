use native.Mathlib.Omega.{arith}
use Rattle.lines.specs.Decimal.{named_put}
use Rattle.lines.proofs.put.put_named.Goals as goal

pub returns : goal.returns
returns c = (named_put _ _ _ _ _ _ _ _ c.put_text-next.ensures c.put_decimal.ensures.0, omega arith)
