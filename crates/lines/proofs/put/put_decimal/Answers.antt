use native.Mathlib.Omega.{arith}
use Rattle.lines.specs.Decimal.{digits_room, decimal-put}
use borrow.Author.Rules.{rules}
use Rattle.lines.proofs.put.put_decimal.Goals as goal

pub put_text-requires : goal.put_text-requires
put_text-requires c = let e = c.decimal-k.ensures in omega (arith, digits_room _ _ _ (search rules) e.len e.digits)

pub returns : goal.returns
returns c = let e = c.decimal-k.ensures in decimal-put _ _ _ (search rules) e.len e.digits _ _ _ _ c.put_text.ensures
