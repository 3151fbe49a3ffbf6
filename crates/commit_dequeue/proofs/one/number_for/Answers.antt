use borrow.Author.Tests.{not-true, not-false}
use Rattle.commit_dequeue.specs.Model.{number-tested, number_gap, number-lists, number-room, number-none}
use Rattle.std.proofs.lemmas.Result.{err_from_is_err_and}
use Rattle.commit_dequeue.proofs.one.number_for.Goals as goal

pub returns-in_err-check : goal.returns-in_err-check
returns-in_err-check c = let p = err_from_is_err_and c.from_residual.result c.from_residual.ensures.1 in rw (p.1, p.2) (number-tested _ _ _ _ _ _ c.in_err-check.was)

pub returns-then-gap-eq1 : goal.returns-then-gap-eq1
returns-then-gap-eq1 c = number_gap _ _ _ _ _ c.in_ok-check.was c.if-gap-eq1.true

pub returns-then-not-listed : goal.returns-then-not-listed
returns-then-not-listed c = number-lists _ _ _ _ _ c.in_ok-check.was c.if-gap-eq1.false (not-true _ c.if-not-listed.true-raw)

pub returns-then-left-count : goal.returns-then-left-count
returns-then-left-count c = number-room _ _ _ _ _ c.in_ok-check.was c.if-gap-eq1.false (not-false _ c.if-not-listed.false-raw) c.if-left-count.true

pub returns : goal.returns
returns c = number-none _ _ _ _ _ c.in_ok-check.was c.if-gap-eq1.false (not-false _ c.if-not-listed.false-raw) c.if-left-count.false
