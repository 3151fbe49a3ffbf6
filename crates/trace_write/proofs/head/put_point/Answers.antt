use native.Mathlib.Omega.{arith}
use Rattle.trace_write.specs.Ids.{id-length, id-put}
use borrow.Author.Rules.{rules}
use Rattle.trace_write.proofs.head.put_point.Goals as goal

pub put_digest-requires : goal.put_digest-requires
put_digest-requires c = (search rules, omega (arith, id-length c.args.id _ c.well_formed.1.1.0))

pub returns : goal.returns
returns c = (omega (arith, c.put_digest.ensures.0, c.put_number-next.ensures.0, c.put_number-author.ensures.0), id-put c.args.id _ _ _ _ _ _ _ c.put_number-author.ensures.0 c.put_number-author.ensures.1 c.put_number-next.ensures.0 c.put_number-next.ensures.1 c.put_digest.ensures.1)
