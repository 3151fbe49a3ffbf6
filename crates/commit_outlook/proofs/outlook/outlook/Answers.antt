use Rattle.models.specs.Digest.{Fit}
use Rattle.models.specs.Parts.{id_of}
use Rattle.tables_test.specs.View.{view}
use Rattle.back_chain.specs.Walked.{walked_no, walked-counts, walked-bad, walked-good, chain-rises}
use Rattle.commit_outlook.specs.Outlook.{says_refused, says_shown}
use Rattle.commit_outlook.proofs.outlook.outlook.Goals as goal

pub returns-then-not-counts_as_started : goal.returns-then-not-counts_as_started
returns-then-not-counts_as_started c =
    let a = c.args in
    says_refused a.s a.keys.now a.links.now a.certs.now a.order.now a.b.now (id_of a.id) _
    (walked_no (view a.s a.keys.now a.links.now a.certs.now a.order.now) (id_of a.id) _ c.counts_as_started.ensures c.if-not-counts_as_started.true-raw) _ c.refused.ensures

pub chain_of-requires : goal.chain_of-requires
chain_of-requires c =
    let a = c.args in
    walked-counts (view a.s a.keys.now a.links.now a.certs.now a.order.now) (id_of a.id) _ c.counts_as_started.ensures c.if-not-counts_as_started.false-raw

pub returns-in-Err : goal.returns-in-Err
returns-in-Err c =
    let a = c.args in
    let h = c.chain_of in
    says_refused a.s a.keys.now a.links.now a.certs.now a.order.now a.b.now (id_of a.id) _
    (walked-bad (view a.s a.keys.now a.links.now a.certs.now a.order.now) (id_of a.id) _ c.counts_as_started.ensures c.if-not-counts_as_started.false-raw h.result h.ensures.result_value _ c.in-Err.is) _ c.refused-in-Err.ensures

pub outlook_chain-requires : goal.outlook_chain-requires
outlook_chain-requires c =
    let a = c.args in
    let fk : Fit a.keys.now = λ p. (c.shared_slice_known-1.given p).fits in
    let fl : Fit a.links.now = λ p. (c.shared_slice_known-2-1.given p).fits in
    let h = c.chain_of in
    let n = walked-counts (view a.s a.keys.now a.links.now a.certs.now a.order.now) (id_of a.id) _ c.counts_as_started.ensures c.if-not-counts_as_started.false-raw in
    let g = walked-good (view a.s a.keys.now a.links.now a.certs.now a.order.now) (id_of a.id) _ c.counts_as_started.ensures c.if-not-counts_as_started.false-raw h.result h.ensures.result_value _ c.in-Ok.is in
    record { order_value = n; rising = chain-rises a.s a.keys.now a.links.now a.certs.now a.order.now fk fl n (id_of a.id) _ g; count_bound = c.in-Ok.ensures.count_bound }

pub returns-in-Ok : goal.returns-in-Ok
returns-in-Ok c =
    let a = c.args in
    let h = c.chain_of in
    says_shown a.s a.keys.now a.links.now a.certs.now a.order.now a.b.now (id_of a.id) _
    (walked-good (view a.s a.keys.now a.links.now a.certs.now a.order.now) (id_of a.id) _ c.counts_as_started.ensures c.if-not-counts_as_started.false-raw h.result h.ensures.result_value _ c.in-Ok.is) _ c.outlook_chain.ensures
