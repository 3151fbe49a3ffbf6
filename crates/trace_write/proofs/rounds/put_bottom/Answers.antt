use native.Mathlib.Omega.{arith}
use Rattle.trace_write.specs.Rounds.{start_last}
use Rattle.trace_write.specs.Fields.{put-more, put_last, put_as}
use Rattle.trace_write.proofs.rounds.put_bottom.Goals as goal

pub returns : goal.returns
unfolding start_last
returns c = (omega (arith, c.put_number.ensures.0, c.put_number-last.ensures.0, c.put_number-flag.ensures.0, c.put_number-peers.ensures.0), put-more _ _ _ _ _ _ _ _ c.put_number-peers.ensures.1 c.put_number-peers.ensures.0 (put-more _ _ _ _ _ _ _ _ c.put_number-flag.ensures.1 c.put_number-flag.ensures.0 (put-more _ _ _ _ _ _ _ _ (put_as _ _ _ _ _ _ c.mark-gap.ensures.0 c.put_number-last.ensures.1) c.put_number-last.ensures.0 (put_last _ _ _ _ _ (put_as _ _ _ _ _ _ c.used_byte-author.ensures c.put_number.ensures.1)))))
