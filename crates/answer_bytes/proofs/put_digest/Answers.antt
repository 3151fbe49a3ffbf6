use native.Mathlib.Omega.{arith}
use mathlib.Core.Path.{sym}
use Rattle.laws.specs.Bytes.{be-length, and_then}
use Rattle.models.specs.Digest.{Fit}
use Rattle.answer_bytes.specs.Bytes.{digest_bytes}
use Rattle.answer_bytes.proofs.put_digest.Goals as goal

pub returns : goal.returns
returns c =
    let a = c.args in
    let f : Fit a.words.now = λ p. (c.type_inv.words p).fits in (
      omega arith,
      rw (sym (digest_bytes a.words.now a.p f))
          (and_then _ _ _ _ _ _ _ 8 (be-length 8 _) c.put_number-a1.ensures.0 c.put_number-a1.ensures.1
          (and_then _ _ _ _ _ _ _ 8 (be-length 8 _) c.put_number-a2.ensures.0 c.put_number-a2.ensures.1
          (and_then _ _ _ _ _ _ _ 8 (be-length 8 _) c.put_number-a3.ensures.0 c.put_number-a3.ensures.1 c.put_number.ensures.1))),
    )
