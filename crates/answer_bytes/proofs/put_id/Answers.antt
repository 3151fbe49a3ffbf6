use native.Mathlib.Omega.{arith}
use Rattle.answer_bytes.specs.Bytes.{id-put}
use Rattle.answer_bytes.proofs.put_id.Goals as goal

pub returns : goal.returns
returns c = (
  omega arith,
  id-put _ _ _ _ _ _ _ _ _ _ _ c.round_word-round.ensures c.author-by.ensures c.put_number-a1.ensures.0 c.put_number-a1.ensures.1
      c.put_number-a2.ensures.0 c.put_number-a2.ensures.1 c.put_digest.ensures.1,
)
