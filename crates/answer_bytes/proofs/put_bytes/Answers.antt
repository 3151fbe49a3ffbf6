use Rattle.std.proofs.Common.{◌≤◌, length, arith, refl}
use Rattle.laws.specs.Bytes.{written}
use Rattle.answer_bytes.specs.Bytes.{bytes-more, bytes_end}
use Rattle.answer_bytes.proofs.put_bytes.Goals as goal

pub loop-k-init : goal.loop-k-init
unfolding written
loop-k-init c = refl

pub loop-k-preserved : goal.loop-k-preserved
loop-k-preserved c = bytes-more _ _ _ _ _ _ (omega arith) c.loop-k.invariant refl

pub returns : goal.returns
returns c = (refl, bytes_end _ _ _ _ _ (omega arith) c.loop-k.invariant)
