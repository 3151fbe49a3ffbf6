use native.Mathlib.Omega.{arith}
use Rattle.trace_write.proofs.Puts.{head_unfit, head_long, head_short, head_done}
use borrow.Author.Tests.{not-true, not-false}
use Rattle.trace_write.proofs.head.put_head.Goals as goal

pub returns-then-not-fits : goal.returns-then-not-fits
returns-then-not-fits c = head_unfit _ _ _ _ (not-true _ c.if-not-fits.true-raw)

pub returns-then-fields : goal.returns-then-fields
returns-then-fields c = head_long _ _ _ _ (omega (arith, c.if-fields.true))

pub returns-then-b-fields : goal.returns-then-b-fields
returns-then-b-fields c = head_short _ _ _ _ (not-false _ c.if-not-fits.false-raw) (omega (arith, c.if-fields.false)) (omega (arith, c.if-b-fields.true))

pub returns : goal.returns
returns c = head_done _ _ _ _ _ _ _ _ _ (not-false _ c.if-not-fits.false-raw) (omega (arith, c.if-fields.false)) (omega (arith, c.if-b-fields.false)) c.put_number-version.ensures.0 c.put_number-at.ensures.0 c.put_number-version.ensures.1 c.put_number-at.ensures.1 c.put_number.ensures.1
