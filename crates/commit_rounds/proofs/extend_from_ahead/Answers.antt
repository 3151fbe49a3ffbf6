use mathlib.Core.Path.{refl, sym, ◌∙◌}
use Rattle.commit_answer.specs.Answer.{left-same, tested_no, tested_by, left-refused, left-done}
use Rattle.commit_rounds.specs.Round.{round_did, round_ready, round_small}
use Rattle.commit_rounds.proofs.extend_from_ahead.Goals as goal

pub returns-then-not-counts_as_started : goal.returns-then-not-counts_as_started
returns-then-not-counts_as_started c = round_did _ _ _ (c.well_formed.0.1.1.1.1.1.1.1.1.1.1.1.1.1.1.0.1.0.1) _ (left-refused _ _ _ _ (tested_no _ _ _ c.counts_as_started.ensures c.if-not-counts_as_started.true-raw) _ c.refused.ensures)

pub check_round-check-requires : goal.check_round-check-requires
check_round-check-requires c = round_ready _ _ _ _ _ _ c.counts_as_started.ensures c.if-not-counts_as_started.false-raw

pub returns-in-Err : goal.returns-in-Err
returns-in-Err c = round_did _ _ _ (c.well_formed.0.1.1.1.1.1.1.1.1.1.1.1.1.1.1.0.1.0.1) _ (left-refused _ _ _ _ (tested_by _ _ _ c.counts_as_started.ensures c.if-not-counts_as_started.false-raw _ (sym c.check_round-check.ensures ∙ c.in-Err.is)) _ c.refused-in-Err.ensures)

pub with_round-next-requires : goal.with_round-next-requires
with_round-next-requires c =
    let (k, m) = round_ready _ _ _ _ _ _ c.counts_as_started.ensures c.if-not-counts_as_started.false-raw in
    (m, round_small _ _ _ _ c.check_round-check.ensures c.in_default.is)

pub returns : goal.returns
returns c = round_did _ _ _ (c.well_formed.0.1.1.1.1.1.1.1.1.1.1.1.1.1.1.0.1.0.1) _ (left-done _ _ _ (tested_by _ _ _ c.counts_as_started.ensures c.if-not-counts_as_started.false-raw _ (sym c.check_round-check.ensures ∙ c.in_default.is)) _ (left-same refl c.with_round-next.ensures refl refl refl refl refl))
