use native.Mathlib.Omega.{arith}
use Rattle.laws.specs.Bytes.{be-length, and_then}
use Rattle.spec.specs.Records.{id-length}
use Rattle.output_record.specs.Model.{head_of}
use Rattle.output_record.proofs.record.put_head.Goals as goal

pub returns : goal.returns
unfolding head_of
returns c = (
  omega arith,
  and_then _ _ _ _ _ _ _ 37 (id-length _) c.put_id-a1.ensures.0 c.put_id-a1.ensures.1
      (and_then _ _ _ _ _ _ _ 37 (id-length _) c.put_id-a2.ensures.0 c.put_id-a2.ensures.1
      (and_then _ _ _ _ _ _ _ 1 (be-length 1 _) c.put_number-a3.ensures.0 (rw c.flag.ensures at c.put_number-a3.ensures.1)
      (and_then _ _ _ _ _ _ _ 4 (be-length 4 _) c.put_number-a4.ensures.0 (rw c.wide.ensures at c.put_number-a4.ensures.1)
      c.put_number.ensures.1))),
)
