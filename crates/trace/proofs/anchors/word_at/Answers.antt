use Rattle.trace.specs.Anchors.{word-includes, word_witness, word-anchor, word-other}
use Rattle.trace.proofs.anchors.word_at.Goals as goal

pub returns-then-is_word : goal.returns-then-is_word
returns-then-is_word c = word-includes _ _ _ c.is_word.ensures c.if-is_word.true

pub returns-then-is_word-2 : goal.returns-then-is_word-2
returns-then-is_word-2 c = word_witness _ _ _ c.is_word.ensures c.if-is_word.false _ c.is_word-2.ensures c.if-is_word-2.true

pub returns-then-is_word-3 : goal.returns-then-is_word-3
returns-then-is_word-3 c = word-anchor _ _ _ c.is_word.ensures c.if-is_word.false _ c.is_word-2.ensures c.if-is_word-2.false _ c.is_word-3.ensures c.if-is_word-3.true

pub returns : goal.returns
returns c = word-other _ _ _ c.is_word.ensures c.if-is_word.false _ c.is_word-2.ensures c.if-is_word-2.false _ c.is_word-3.ensures c.if-is_word-3.false
