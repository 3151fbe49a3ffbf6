use mathlib.Core.Path.{refl}
use Rattle.commit_answer.specs.Answer.{left-same, tested_no, tested_by, left-refused, left-done}
use Rattle.commit_start.specs.Start.{reset_did}
use Rattle.commit_start.proofs.reset.Goals as goal

pub returns-then-not-counts_as_started : goal.returns-then-not-counts_as_started
returns-then-not-counts_as_started c = reset_did _ _ (left-refused _ _ _ _ (tested_no _ _ _ c.counts_as_started.ensures c.if-not-counts_as_started.true-raw) _ c.refused.ensures)

pub returns : goal.returns
returns c =
    let k = c.clear.ensures in
    reset_did _ _ (left-done _ _ _ (tested_by _ _ _ c.counts_as_started.ensures c.if-not-counts_as_started.false-raw _ refl) _ (left-same refl c.reset_state-next.ensures k.keys k.links k.certs k.order refl))
