use Rattle.back_behind.specs.Model.{note_none, note_out, note_yes, note_no}
use Rattle.back_behind.proofs.note_link.Goals as goal

pub returns-then-word-eq0 : goal.returns-then-word-eq0
returns-then-word-eq0 c = note_none _ _ _ _ c.if-word-eq0.true

pub goes_before-requires : goal.goes_before-requires
goes_before-requires c = let p = c.requires in (p.1, p.2 _)

pub returns-then-goes_before : goal.returns-then-goes_before
returns-then-goes_before c = note_yes _ _ _ _ c.if-word-eq0.false c.if-word-le-PLACES_MAX_WORD.true _ c.goes_before.ensures c.if-goes_before.true

pub returns-else-goes_before : goal.returns-else-goes_before
returns-else-goes_before c = note_no _ _ _ _ c.if-word-eq0.false c.if-word-le-PLACES_MAX_WORD.true _ c.goes_before.ensures c.if-goes_before.false

pub returns-else-word-le-PLACES_MAX_WORD : goal.returns-else-word-le-PLACES_MAX_WORD
returns-else-word-le-PLACES_MAX_WORD c = note_out _ _ _ _ c.if-word-eq0.false c.if-word-le-PLACES_MAX_WORD.false
