use mathlib.Core.Path.{refl}
use Rattle.laws.specs.Bytes.{be-length}
use Rattle.answer_bytes.specs.Sent.{sent_wrote, sent_counted}
use Rattle.answer_bytes.proofs.emit_number.Goals as goal

pub put_number-requires : goal.put_number-requires
put_number-requires c = c.requires.0.0 c.if-write.true

pub returns-then-write : goal.returns-then-write
returns-then-write c = let e = c.put_number.ensures in sent_wrote _ _ _ _ _ _ _ (be-length _ _) e.0 e.1 c.if-write.true

pub returns : goal.returns
returns c = sent_counted _ _ _ _ _ _ (be-length _ _) refl c.if-write.false
