use Rattle.std.proofs.Common.{◌≡◌}
use Rattle.laws.specs.Bytes.{be, written}
use Rattle.answer_bytes.proofs.put_number.Given as goal

abbrev pub invariant-loop-k : goal.invariant-loop-k
invariant-loop-k l = written l.b l.at (be l.k l.x) ≡ written l.initial.b l.at (be l.width l.v)
