use mathlib.Core.Path.{refl}
use Rattle.commit_answer.specs.Answer.{tested_no, tested_by, left-refused, left-done}
use Rattle.commit_rounds.specs.Drain.{given}
use Rattle.commit_rounds.specs.Drop.{drop_did, dropped_is}
use native.Mathlib.Omega.{arith}
use Rattle.spec.specs.Rules.{counts_as_started}
use Rattle.models.specs.Digest.{Fit}
use Rattle.tables_test.specs.View.{view}
use Rattle.dag_round_order.specs.Span.{below-le}
use Rattle.commit_rounds.proofs.drop_upto.Goals as goal

pub returns-then-not-counts_as_started : goal.returns-then-not-counts_as_started
returns-then-not-counts_as_started c = drop_did _ _ (λ p. (c.slice_known-1.given p).fits) (λ p. (c.slice_known-2-1.given p).fits) _ (left-refused _ _ _ _ (tested_no _ _ _ c.counts_as_started.ensures c.if-not-counts_as_started.true-raw) _ c.refused.ensures)

pub cut-k-requires : goal.cut-k-requires
cut-k-requires c =
    let a = c.args in
    let fk : Fit a.keys.now = λ p. (c.slice_known-1.given p).fits in
    let fl : Fit a.links.now = λ p. (c.slice_known-2-1.given p).fits in
    let g = given a.s a.keys.now a.links.now a.certs.now a.order.now fk fl _ c.counts_as_started.ensures c.if-not-counts_as_started.false-raw in
    record { keys_len = (g.keys, g.room, g.inside); sorted = g.sorted }

pub drain_upto-requires : goal.drain_upto-requires
drain_upto-requires c =
    let a = c.args in
    let fk : Fit a.keys.now = λ p. (c.slice_known-1.given p).fits in
    let fl : Fit a.links.now = λ p. (c.slice_known-2-1.given p).fits in
    let g = given a.s a.keys.now a.links.now a.certs.now a.order.now fk fl _ c.counts_as_started.ensures c.if-not-counts_as_started.false-raw in
    let l = below-le a.keys.now a.order.now a.s.count c.max-lowest.result.0 in
    record { k_le_n = (omega (arith, l, c.cut-k.ensures), g.room, g.keys, g.links, g.certs); inside = g.inside }

pub overflow_sub-n : goal.overflow_sub-n
overflow_sub-n c =
    let a = c.args in
    let l = below-le a.keys.now a.order.now a.s.count c.max-lowest.result.0 in
    omega (arith, l, c.cut-k.ensures)

pub drop_state-next-requires : goal.drop_state-next-requires
drop_state-next-requires c =
    let a = c.args in
    let fk : Fit a.keys.now = λ p. (c.slice_known-1.given p).fits in
    let fl : Fit a.links.now = λ p. (c.slice_known-2-1.given p).fits in
    let g = given a.s a.keys.now a.links.now a.certs.now a.order.now fk fl _ c.counts_as_started.ensures c.if-not-counts_as_started.false-raw in
    (omega (arith, g.top, c.min-actual.ensures), g.history, g.deduplicate)

pub returns : goal.returns
returns c =
    let a = c.args in
    let k = c.drain_upto.ensures in
    drop_did _ _ (λ p. (c.slice_known-1.given p).fits) (λ p. (c.slice_known-2-1.given p).fits) _ (left-done _ _ _ (tested_by (counts_as_started (view a.s a.keys.now a.links.now a.certs.now a.order.now)) _ _ c.counts_as_started.ensures c.if-not-counts_as_started.false-raw _ refl) _ (dropped_is _ _ _ _ _ c.min-actual.ensures c.max-lowest.ensures c.cut-k.ensures _ c.drop_state-next.ensures k.keys k.links k.certs k.order))
