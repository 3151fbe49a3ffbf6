use borrow.Author.Rules.{rules}
use Rattle.commit_state.specs.Back.{word_nobody, word-peer, used_small}
use Rattle.commit_state.proofs.back.used_word.Goals as goal

-- src/back.rt:44:37
pub overflow_add-result : goal.overflow_add-result
overflow_add-result c = let l = used_small _ _ c.requires c.in-Some.is in search rules

-- src/back.rt:38:1
pub returns-in-None : goal.returns-in-None
returns-in-None c = search word_nobody

-- src/back.rt:38:1
pub returns-in-Some : goal.returns-in-Some
returns-in-Some c = search word-peer
