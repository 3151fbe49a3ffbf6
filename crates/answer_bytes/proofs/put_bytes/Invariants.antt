use Rattle.std.proofs.Common.{◌≡◌, take}
use Rattle.laws.specs.Bytes.{written}
use Rattle.answer_bytes.proofs.put_bytes.Given as goal

abbrev pub invariant-loop-k : goal.invariant-loop-k
invariant-loop-k l = l.b ≡ written l.initial.b l.at (take l.k l.bytes)
