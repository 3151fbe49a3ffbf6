use mathlib.Core.Path.{refl, ap, ◌∙◌}
use native.Mathlib.Omega.{arith}
use lib.ListN.{length}
use Rattle.laws.specs.Bytes.{written-length}
use Rattle.output_record.specs.Model.{wrote_none, wrote_one}
use Rattle.output_record.specs.Listed.{new_no, new-yes}
use Rattle.output_record.proofs.record.put_new.Goals as goal

pub returns-then-is_committed : goal.returns-then-is_committed
returns-then-is_committed c = wrote_none _ _ _ _ _ _ _ _ _ (new_no _ _ _ c.is_committed.ensures c.if-is_committed.true) refl refl

pub put_id-requires : goal.put_id-requires
put_id-requires c =
    let a = c.args in
    let p = c.requires in
    let e = ap length (new-yes a.certs.now a.q _ c.is_committed.ensures c.if-is_committed.false) in
    (omega (arith, p.room.0, p.room.1, e), omega (arith, p.q_bound.1, p.q_bound.2))

pub put_link-requires : goal.put_link-requires
put_link-requires c =
    let a = c.args in
    let p = c.requires in
    let e = ap length (new-yes a.certs.now a.q _ c.is_committed.ensures c.if-is_committed.false) in
    let w = ap length c.put_id.ensures.1 ∙ written-length _ _ _ in
    (omega (arith, p.room.1, e, w), p.q_bound.0, omega (arith, p.q_bound.1, p.q_bound.2), p.q_bound.3 _)

pub returns : goal.returns
returns c = wrote_one _ _ _ _ _ _ _ _ _ _ _ (new-yes _ _ _ c.is_committed.ensures c.if-is_committed.false) refl c.put_id.ensures.1 c.put_link.ensures.1
