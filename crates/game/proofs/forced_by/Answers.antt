use borrow.Author.Rules.{rules}
use Rattle.game.specs.Steps.{counts-test}
use Rattle.game.proofs.forced_by.Goals as goal

pub overflow_sub-n : goal.overflow_sub-n
overflow_sub-n c = search rules

pub and-requires : goal.and-requires
and-requires c = search rules

pub or-requires : goal.or-requires
or-requires c = search rules

pub and-requires-2 : goal.and-requires-2
and-requires-2 c = search rules

pub or-requires-2 : goal.or-requires-2
or-requires-2 c = search rules

pub returns : goal.returns
returns c =
    counts-test _ _ _ _ _ _ _ _ _ _ c.and.ensures c.or.ensures c.and-2.ensures c.or-2.ensures
