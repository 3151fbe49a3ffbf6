use Rattle.back_history.specs.Model.{limit_of}
use borrow.Author.Rules.{rules}
use Rattle.back_history.proofs.history_limit.Goals as goal

pub returns : goal.returns
unfolding limit_of
returns c = search rules
