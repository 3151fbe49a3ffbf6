use native.Mathlib.Omega.{arith}
use Rattle.laws.specs.Bytes.{be-length, and_then}
use Rattle.output_record.specs.Sums.{sums_of}
use Rattle.output_record.proofs.sums.put_sums.Goals as goal

pub returns : goal.returns
unfolding sums_of
returns c =
    let first = c.put_number-next.ensures in
    let last = c.put_number.ensures in
    (omega (arith, first.0, last.0), and_then _ _ _ _ _ _ _ 8 (be-length 8 _) first.0 first.1 last.1)
