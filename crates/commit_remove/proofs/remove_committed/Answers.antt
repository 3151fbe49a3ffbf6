use native.Mathlib.Omega.{arith}
use Rattle.spec.specs.Rules.{counts_as_started}
use Rattle.models.specs.Digest.{Fit}
use Rattle.stats.specs.Ranges.{since_of}
use Rattle.tables_test.specs.View.{view}
use Rattle.tables_test.specs.Model.{passed}
use Rattle.dag_round_order.specs.Span.{below-le}
use Rattle.commit_answer.specs.Answer.{tables}
use Rattle.commit_rounds.specs.Drain.{given}
use Rattle.commit_remove.specs.Remove.{bottom_low, says_unstarted, says_beyond, says_short, says_done}
use Rattle.commit_remove.proofs.remove_committed.Goals as goal

pub returns-then-not-counts_as_started : goal.returns-then-not-counts_as_started
returns-then-not-counts_as_started c =
    let a = c.args in
    let fk : Fit a.keys.now = λ p. (c.slice_known-1.given p).fits in
    let fl : Fit a.links.now = λ p. (c.slice_known-2-1.given p).fits in
    says_unstarted (since_of a.stats_since) a.round.0 a.b.now (tables a.s a.keys.now a.links.now a.certs.now a.order.now) fk fl _ c.counts_as_started.ensures c.if-not-counts_as_started.true-raw _ c.refused.ensures

pub returns-then-is_beyond : goal.returns-then-is_beyond
returns-then-is_beyond c =
    let a = c.args in
    let fk : Fit a.keys.now = λ p. (c.slice_known-1.given p).fits in
    let fl : Fit a.links.now = λ p. (c.slice_known-2-1.given p).fits in
    says_beyond (since_of a.stats_since) a.round.0 a.b.now (tables a.s a.keys.now a.links.now a.certs.now a.order.now) fk fl _ c.counts_as_started.ensures c.if-not-counts_as_started.false-raw _ c.is_beyond.ensures c.if-is_beyond.true _ c.refused-then-is_beyond.ensures

pub answer_remove-requires : goal.answer_remove-requires
answer_remove-requires c =
    let a = c.args in
    let fk : Fit a.keys.now = λ p. (c.slice_known-1.given p).fits in
    let fl : Fit a.links.now = λ p. (c.slice_known-2-1.given p).fits in
    let g = given a.s a.keys.now a.links.now a.certs.now a.order.now fk fl _ c.counts_as_started.ensures c.if-not-counts_as_started.false-raw in
    record { order_value = passed (counts_as_started (view a.s a.keys.now a.links.now a.certs.now a.order.now)) _ c.counts_as_started.ensures c.if-not-counts_as_started.false-raw; low_le_top = bottom_low a.s a.round.0 _ g.bottom c.remove_bottom-low.ensures }

pub returns-then-not-answer_remove : goal.returns-then-not-answer_remove
returns-then-not-answer_remove c =
    let a = c.args in
    let fk : Fit a.keys.now = λ p. (c.slice_known-1.given p).fits in
    let fl : Fit a.links.now = λ p. (c.slice_known-2-1.given p).fits in
    says_short (since_of a.stats_since) a.round.0 a.b.now (tables a.s a.keys.now a.links.now a.certs.now a.order.now) fk fl _ c.counts_as_started.ensures c.if-not-counts_as_started.false-raw _ c.is_beyond.ensures c.if-is_beyond.false _ c.remove_bottom-low.ensures _ _ c.answer_remove.ensures c.if-not-answer_remove.true-raw _ c.refused-then-not-answer_remove.ensures

pub memory_after-memory-requires : goal.memory_after-memory-requires
memory_after-memory-requires c =
    let a = c.args in
    let fk : Fit a.keys.now = λ p. (c.slice_known-1.given p).fits in
    let fl : Fit a.links.now = λ p. (c.slice_known-2-1.given p).fits in
    let g = given a.s a.keys.now a.links.now a.certs.now a.order.now fk fl _ c.counts_as_started.ensures c.if-not-counts_as_started.false-raw in
    let l = bottom_low a.s a.round.0 _ g.bottom c.remove_bottom-low.ensures in
    record { order_value = passed (counts_as_started (view a.s a.keys.now a.links.now a.certs.now a.order.now)) _ c.counts_as_started.ensures c.if-not-counts_as_started.false-raw; low_bound = omega (arith, l, g.top) }

pub cut-k-requires : goal.cut-k-requires
cut-k-requires c =
    let a = c.args in
    let fk : Fit a.keys.now = λ p. (c.slice_known-1.given p).fits in
    let fl : Fit a.links.now = λ p. (c.slice_known-2-1.given p).fits in
    let g = given a.s a.keys.now a.links.now a.certs.now a.order.now fk fl _ c.counts_as_started.ensures c.if-not-counts_as_started.false-raw in
    record { keys_len = (g.keys, g.room, g.inside); sorted = g.sorted }

pub drain_upto-requires : goal.drain_upto-requires
drain_upto-requires c =
    let a = c.args in
    let fk : Fit a.keys.now = λ p. (c.slice_known-1.given p).fits in
    let fl : Fit a.links.now = λ p. (c.slice_known-2-1.given p).fits in
    let g = given a.s a.keys.now a.links.now a.certs.now a.order.now fk fl _ c.counts_as_started.ensures c.if-not-counts_as_started.false-raw in
    let l = below-le a.keys.now a.order.now a.s.count c.remove_bottom-low.result.0 in
    record { k_le_n = (omega (arith, l, c.cut-k.ensures), g.room, g.keys, g.links, g.certs); inside = g.inside }

pub overflow_sub-n : goal.overflow_sub-n
overflow_sub-n c =
    let a = c.args in
    let l = below-le a.keys.now a.order.now a.s.count c.remove_bottom-low.result.0 in
    omega (arith, l, c.cut-k.ensures)

pub returns : goal.returns
returns c =
    let a = c.args in
    let fk : Fit a.keys.now = λ p. (c.slice_known-1.given p).fits in
    let fl : Fit a.links.now = λ p. (c.slice_known-2-1.given p).fits in
    let k = c.drain_upto.ensures in
    says_done (since_of a.stats_since) a.round.0 a.b.now (tables a.s a.keys.now a.links.now a.certs.now a.order.now) fk fl _ c.counts_as_started.ensures c.if-not-counts_as_started.false-raw _ c.is_beyond.ensures c.if-is_beyond.false _ c.remove_bottom-low.ensures _ _ c.answer_remove.ensures c.if-not-answer_remove.false-raw _ c.cut-k.ensures _ c.memory_after-memory.ensures _ c.removed_state-next.ensures k.keys k.links k.certs k.order
