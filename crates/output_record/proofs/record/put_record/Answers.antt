use mathlib.Core.Path.{ap, ◌∙◌}
use native.Mathlib.Omega.{arith}
use lib.ListN.{length}
use Rattle.laws.specs.Bytes.{written-length}
use Rattle.output_record.specs.Model.{record_then}
use Rattle.output_record.proofs.record.put_record.Goals as goal

pub put_head-ids-requires : goal.put_head-ids-requires
put_head-ids-requires c =
    let p = c.requires in
    let t = p.listable.0.tables in
    (omega (arith, p.anchor_in_bounds.3), omega (arith, p.anchor_in_bounds.0, t.words, t.keys), omega (arith, p.anchor_in_bounds.1, t.words, t.keys))

pub put_points-requires : goal.put_points-requires
put_points-requires c =
    let p = c.requires in
    let h = c.put_head-ids.ensures in
    let e = ap length h.1 ∙ written-length _ _ _ in
    record { listable = p.listable; room = (omega (arith, p.anchor_in_bounds.2), omega (arith, p.anchor_in_bounds.2, p.anchor_in_bounds.3, h.0, e)) }

pub put_sums-requires : goal.put_sums-requires
put_sums-requires c =
    let p = c.requires in
    let h = c.put_head-ids.ensures in
    let d = ap length h.1 ∙ written-length _ _ _ in
    let e = ap length c.put_points.ensures ∙ (written-length _ _ _ ∙ written-length _ _ _) in
    omega (arith, p.anchor_in_bounds.3, h.0, d, e)

pub returns : goal.returns
returns c =
    let h = c.put_head-ids.ensures in
    record_then _ _ _ _ _ _ _ _ _ _ _ _ _ _ _ _ _ c.requires.anchor_in_bounds.2 h.0 h.1 c.put_points.ensures c.put_sums.ensures
