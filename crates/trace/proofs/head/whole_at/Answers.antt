use native.Mathlib.Omega.{arith}
use Rattle.trace.specs.Head.{whole_short, whole_little, whole_much, whole_end}
use Rattle.trace.proofs.head.whole_at.Goals as goal

pub returns-then-n-lt-LENGTH_BYTES : goal.returns-then-n-lt-LENGTH_BYTES
returns-then-n-lt-LENGTH_BYTES c = whole_short _ _ (omega (arith, c.if-n-lt-LENGTH_BYTES.true))

pub returns-then-n-at : goal.returns-then-n-at
returns-then-n-at c = whole_short _ _ (omega (arith, c.if-n-at.true))

pub returns-then-rest-lt2 : goal.returns-then-rest-lt2
returns-then-rest-lt2 c = whole_little _ _ _ c.number_of-rest.ensures c.if-rest-lt2.true

pub returns-then-rest-gt-REST_MAX : goal.returns-then-rest-gt-REST_MAX
returns-then-rest-gt-REST_MAX c = whole_much _ _ _ c.number_of-rest.ensures c.if-rest-gt-REST_MAX.true

pub returns : goal.returns
returns c = whole_end _ _ _ c.number_of-rest.ensures (omega (arith, c.if-n-lt-LENGTH_BYTES.false, c.if-n-at.false)) c.if-rest-lt2.false c.if-rest-gt-REST_MAX.false
