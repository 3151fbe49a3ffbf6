use Rattle.back_history.specs.Supposing.{fresh_taken, fresh_left}
use borrow.Author.Rules.{rules}
use Rattle.back_history.proofs.is_fresh.Goals as goal

pub returns-then-taken-q : goal.returns-then-taken-q
returns-then-taken-q c = fresh_taken _ _ _ _ (search rules) c.if-taken-q.true

pub returns : goal.returns
returns c = fresh_left _ _ _ _ (search rules) c.if-taken-q.false _ c.is_uncommitted.ensures
