use native.Mathlib.Omega.{arith}
use Rattle.trace_write.specs.Rounds.{start_first}
use Rattle.trace_write.specs.Fields.{put-more, put_last}
use Rattle.trace_write.proofs.rounds.put_conf.Goals as goal

pub returns : goal.returns
unfolding start_first
returns c = (omega (arith, c.put_number.ensures.0, c.put_number-deduplicate.ensures.0, c.put_number-history.ensures.0), put-more _ _ _ _ _ _ _ _ c.put_number-history.ensures.1 c.put_number-history.ensures.0 (put-more _ _ _ _ _ _ _ _ c.put_number-deduplicate.ensures.1 c.put_number-deduplicate.ensures.0 (put_last _ _ _ _ _ c.put_number.ensures.1)))
