use native.Mathlib.Omega.{arith}
use Rattle.lines.specs.Decimal.{named_byte}
use Rattle.lines.specs.Said.{anchor-put}
use Rattle.lines.proofs.line.put_anchor.Goals as goal

pub put_named-a3-requires : goal.put_named-a3-requires
put_named-a3-requires c = omega (arith, named_byte _ c.requires.1, c.put_named-a2.ensures.0.next)

pub put_text-requires : goal.put_text-requires
put_text-requires c = omega (arith, named_byte _ c.requires.1, c.put_named-a2.ensures.0.next)

pub returns : goal.returns
returns c = (anchor-put _ _ _ _ _ _ _ _ _ _ _ _ _ c.put_named-a1.ensures.0 c.put_named-a2.ensures.0 c.put_named-a3.ensures.0 c.put_text.ensures, omega (arith, named_byte _ c.requires.1, c.put_named-a2.ensures.0.next))
