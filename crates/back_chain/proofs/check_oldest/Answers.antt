use Rattle.back_chain.specs.Chain.{check_none, check_apart, check_on}
use borrow.Author.Rules.{rules}
use Rattle.back_chain.proofs.check_oldest.Goals as goal

pub returns-then-count-eq0 : goal.returns-then-count-eq0
returns-then-count-eq0 c = record { result_value = check_none _ _ c.if-count-eq0.true; count_bound = search rules }

pub returns-then-low-oldest : goal.returns-then-low-oldest
returns-then-low-oldest c = record { result_value = check_apart _ _ c.if-count-eq0.false c.if-low-oldest.true; count_bound = search rules }

pub returns : goal.returns
returns c = record { result_value = check_on _ _ c.if-count-eq0.false c.if-low-oldest.false; count_bound = search rules }
