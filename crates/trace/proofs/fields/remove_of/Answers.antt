use Rattle.stats.specs.Ranges.{since_of}
use Rattle.trace.specs.Fields.{since_none, since-some}
use Rattle.trace.proofs.fields.remove_of.Goals as goal

pub returns-then-flag-eq0 : goal.returns-then-flag-eq0
unfolding since_of
returns-then-flag-eq0 c = (c.number_of-round.ensures, since_none _ _ c.byte_of-flag.ensures.0 c.if-flag-eq0.true)

pub returns : goal.returns
unfolding since_of
returns c = (c.number_of-round.ensures, since-some _ _ _ c.byte_of-flag.ensures.0 c.if-flag-eq0.false c.number_of-since.ensures)
