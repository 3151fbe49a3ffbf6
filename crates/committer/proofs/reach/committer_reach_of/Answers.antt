use borrow.Author.Rules.{rules}
use Rattle.game.specs.Refines.{numbers-forced, numbers_not}
use Rattle.committer.proofs.reach.committer_reach_of.Goals as goal

pub reach_of-answer-requires : goal.reach_of-answer-requires
reach_of-answer-requires c = search rules

pub refusal-refused-requires : goal.refusal-refused-requires
refusal-refused-requires c = search rules

pub forced-requires : goal.forced-requires
forced-requires c = search rules

pub returns-then-forced : goal.returns-then-forced
returns-then-forced c = numbers-forced _ _ _ _ _ _ c.reach_of-answer.ensures c.refusal-refused.ensures c.forced.ensures c.if-forced.true

pub returns-else-forced : goal.returns-else-forced
returns-else-forced c = numbers_not _ _ _ _ _ _ c.reach_of-answer.ensures c.refusal-refused.ensures c.forced.ensures c.if-forced.false
