use Rattle.trace_write.proofs.Puts.{put_refused, put-done}
use mathlib.Core.Path.{refl}
use Rattle.trace_write.specs.Fields.{put-none}
use Rattle.trace_write.proofs.rounds.put_bare.Goals as goal

pub returns-then-refused-ne0 : goal.returns-then-refused-ne0
returns-then-refused-ne0 c = λ o s. put_refused s _ _ _ c.put_head-refused.ensures c.if-refused-ne0.true

pub returns : goal.returns
returns c = λ o s. put-done s _ _ _ c.put_head-refused.ensures _ _ c.if-refused-ne0.false refl (put-none _ _)
