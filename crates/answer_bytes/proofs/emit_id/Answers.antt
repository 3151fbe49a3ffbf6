use mathlib.Core.Path.{refl}
use Rattle.spec.specs.Records.{id-length}
use Rattle.answer_bytes.specs.Sent.{sent_wrote, sent_counted}
use Rattle.answer_bytes.proofs.emit_id.Goals as goal

pub put_id-requires : goal.put_id-requires
put_id-requires c = (c.requires.0.0 c.if-write.true, c.requires.1)

pub returns-then-write : goal.returns-then-write
returns-then-write c = let e = c.put_id.ensures in sent_wrote _ _ _ _ 37 _ _ (id-length _) e.0 e.1 c.if-write.true

pub returns : goal.returns
returns c = sent_counted _ _ _ _ 37 _ (id-length _) refl c.if-write.false
