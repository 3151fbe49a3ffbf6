use mathlib.Core.Path.{refl}
use Rattle.commit_answer.specs.Answer.{tested_no, tested_by, left-refused, left-done}
use Rattle.commit_rounds.specs.Gap.{gap_did, put_other, put_asked}
use Rattle.commit_rounds.proofs.is_once_after_gap.Goals as goal

pub returns-then-not-counts_as_started : goal.returns-then-not-counts_as_started
returns-then-not-counts_as_started c = gap_did _ _ (left-refused _ _ _ _ (tested_no _ _ _ c.counts_as_started.ensures c.if-not-counts_as_started.true-raw) _ c.refused.ensures)

pub returns-then-s-ne1 : goal.returns-then-s-ne1
returns-then-s-ne1 c = gap_did _ _ (left-done _ _ _ (tested_by _ _ _ c.counts_as_started.ensures c.if-not-counts_as_started.false-raw _ refl) _ (put_other _ c.if-s-ne1.true))

pub returns : goal.returns
returns c = gap_did _ _ (left-done _ _ _ (tested_by _ _ _ c.counts_as_started.ensures c.if-not-counts_as_started.false-raw _ refl) _ (put_asked _ c.if-s-ne1.false _ c.ask_state-put.ensures))
