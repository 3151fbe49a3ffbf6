use mathlib.Core.Path.{refl}
use Rattle.laws.specs.Bytes.{be-length}
use Rattle.answer_bytes.specs.Sent.{sent_wrote, sent_counted}
use Rattle.answer_bytes.proofs.emit_digest.Goals as goal

pub put_digest-requires : goal.put_digest-requires
put_digest-requires c = (c.requires.0.0 c.if-write.true, c.requires.1)

pub returns-then-write : goal.returns-then-write
returns-then-write c = let e = c.put_digest.ensures in sent_wrote _ _ _ _ 32 _ _ (be-length 32 _) e.0 e.1 c.if-write.true

pub returns : goal.returns
returns c = sent_counted _ _ _ _ 32 _ (be-length 32 _) refl c.if-write.false
