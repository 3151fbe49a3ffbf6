use native.Mathlib.Omega.{arith}
use Rattle.trace_write.specs.Resolve.{link_put_lem}
use Rattle.trace_write.proofs.resolve.put_link.Goals as goal

pub returns : goal.returns
returns c = (omega (arith, c.put_digest.ensures.0, c.put_number-next.ensures.0), link_put_lem _ _ _ _ _ _ c.put_number-next.ensures.1 c.put_number-next.ensures.0 c.put_digest.ensures.1)
