use Rattle.back_history.specs.Model.{put-none, put-place, put_out}
use Rattle.back_history.proofs.mark_target.Goals as goal

pub returns-then-word-eq0 : goal.returns-then-word-eq0
returns-then-word-eq0 c = put-none _ _ c.if-word-eq0.true

pub returns-then-word-le-PLACES_MAX_WORD : goal.returns-then-word-le-PLACES_MAX_WORD
returns-then-word-le-PLACES_MAX_WORD c = put-place _ _ c.if-word-eq0.false c.if-word-le-PLACES_MAX_WORD.true

pub returns-else-word-le-PLACES_MAX_WORD : goal.returns-else-word-le-PLACES_MAX_WORD
returns-else-word-le-PLACES_MAX_WORD c = put_out _ _ c.if-word-eq0.false c.if-word-le-PLACES_MAX_WORD.false
