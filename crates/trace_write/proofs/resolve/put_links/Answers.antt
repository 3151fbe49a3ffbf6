use native.Mathlib.Omega.{arith}
use mathlib.Core.Path.{refl, ap, ◌∙◌}
use lib.ListN.{length}
use Rattle.laws.specs.Bytes.{written, written-length}
use Rattle.models.specs.Info.{refs_of}
use Rattle.trace.specs.Write.{field_bytes, link_fields}
use Rattle.trace_write.specs.Resolve.{links-more, links_end}
use Rattle.trace_write.proofs.resolve.put_links.Goals as goal

pub loop-k-init : goal.loop-k-init
unfolding written field_bytes link_fields refs_of
loop-k-init c = (refl, omega arith)

pub put_link-next-requires : goal.put_link-next-requires
put_link-next-requires c = (omega (arith, ap length c.loop-k.invariant.0 ∙ written-length _ _ _), omega arith)

pub loop-k-preserved : goal.loop-k-preserved
loop-k-preserved c = (links-more _ _ _ _ _ c.loop-k.invariant.0 _ _ c.loop-k.invariant.1 c.put_link-next.ensures.1, omega (arith, c.put_link-next.ensures.0))

pub returns : goal.returns
returns c = (omega (arith, c.loop-k-test.false, c.loop-k.invariant.1), links_end _ _ _ _ _ c.loop-k.invariant.0 _ c.loop-k.auto.k-end c.loop-k-test.false)
