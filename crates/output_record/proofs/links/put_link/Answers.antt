use mathlib.Core.Path.{refl, ap, ◌∙◌}
use lib.ListN.{length}
use native.Mathlib.Omega.{arith}
use Rattle.laws.specs.Bytes.{written-length}
use Rattle.output_record.specs.Links.{link-own, link_near, link_far}
use Rattle.output_record.proofs.links.put_link.Goals as goal

pub put_id-next-requires : goal.put_id-next-requires
put_id-next-requires c = let p = c.requires in (omega (arith, p.0), p.2)

pub put_bytes-requires : goal.put_bytes-requires
put_bytes-requires c = let p = c.requires in let w = c.put_id-next.ensures in omega (arith, p.0, w.0, ap length w.1 ∙ written-length _ _ _)

pub returns-then-noted-eq0 : goal.returns-then-noted-eq0
returns-then-noted-eq0 c = link-own _ _ _ _ refl _ _ _ _ _ _ c.if-noted-eq0.true c.put_id-next.ensures.0 c.put_id-next.ensures.1 c.put_bytes.ensures

pub put_id-next-requires-2 : goal.put_id-next-requires-2
put_id-next-requires-2 c = let p = c.requires in (omega (arith, p.0), omega (arith, p.3, c.if-noted-eq0.false))

pub is_next-requires : goal.is_next-requires
is_next-requires c = let p = c.requires in (p.2, omega (arith, p.3, c.if-noted-eq0.false))

pub put_bytes-requires-then-is_next : goal.put_bytes-requires-then-is_next
put_bytes-requires-then-is_next c = let p = c.requires in let w = c.put_id-next-2.ensures in omega (arith, p.0, w.0, ap length w.1 ∙ written-length _ _ _)

pub returns-then-is_next : goal.returns-then-is_next
returns-then-is_next c = link_near _ _ _ _ refl _ _ _ _ _ _ _ c.if-noted-eq0.false refl _ c.is_next.ensures c.if-is_next.true c.put_id-next-2.ensures.0 c.put_id-next-2.ensures.1 c.put_bytes-then-is_next.ensures

pub put_bytes-requires-2 : goal.put_bytes-requires-2
put_bytes-requires-2 c = let p = c.requires in let w = c.put_id-next-2.ensures in omega (arith, p.0, w.0, ap length w.1 ∙ written-length _ _ _)

pub returns : goal.returns
returns c = link_far _ _ _ _ refl _ _ _ _ _ _ _ c.if-noted-eq0.false refl _ c.is_next.ensures c.if-is_next.false c.put_id-next-2.ensures.0 c.put_id-next-2.ensures.1 c.put_bytes-2.ensures
