use Rattle.models.specs.Digest.{Fit}
use Rattle.dag_round_points.specs.Words.{id_fit}
use Rattle.commit_answer.specs.Answer.{tables}
use Rattle.commit_points.specs.Name.{name_ready}
use Rattle.commit_points.specs.Certify.{certify-unstarted, certify-refused, certify_ready, certify-done}
use Rattle.commit_points.proofs.certify.certify.Goals as goal

pub returns-then-not-counts_as_started : goal.returns-then-not-counts_as_started
returns-then-not-counts_as_started c =
    let a = c.args in
    let d = tables a.s a.keys.now a.links.now a.certs.now a.order.now in
    let fk : Fit a.keys.now = λ p. (c.shared_slice_known-1.given p).fits in
    let fl : Fit a.links.now = λ p. (c.shared_slice_known-2-1.given p).fits in
    let fi = id_fit a.id _ c.well_formed.1.1.1.1.1.0 in
    certify-unstarted a.id d fk fl fi _ c.counts_as_started.ensures c.if-not-counts_as_started.true-raw _ c.refused.ensures

pub find_named-requires : goal.find_named-requires
find_named-requires c =
    let a = c.args in
    let d = tables a.s a.keys.now a.links.now a.certs.now a.order.now in
    let fk : Fit a.keys.now = λ p. (c.shared_slice_known-1.given p).fits in
    let fl : Fit a.links.now = λ p. (c.shared_slice_known-2-1.given p).fits in
    name_ready d fk fl _ c.counts_as_started.ensures c.if-not-counts_as_started.false-raw

pub certify_at-requires : goal.certify_at-requires
certify_at-requires c =
    let a = c.args in
    let d = tables a.s a.keys.now a.links.now a.certs.now a.order.now in
    let fk : Fit a.keys.now = λ p. (c.shared_slice_known-1.given p).fits in
    let fl : Fit a.links.now = λ p. (c.shared_slice_known-2-1.given p).fits in
    let fi = id_fit a.id _ c.well_formed.1.1.1.1.1.0 in
    certify_ready a.id d fk fl fi _ c.counts_as_started.ensures c.if-not-counts_as_started.false-raw _ c.find_named.ensures _ c.in-Ok.is

pub returns-in-Err : goal.returns-in-Err
returns-in-Err c =
    let a = c.args in
    let d = tables a.s a.keys.now a.links.now a.certs.now a.order.now in
    let fk : Fit a.keys.now = λ p. (c.shared_slice_known-1.given p).fits in
    let fl : Fit a.links.now = λ p. (c.shared_slice_known-2-1.given p).fits in
    let fi = id_fit a.id _ c.well_formed.1.1.1.1.1.0 in
    certify-refused a.id d fk fl fi _ c.counts_as_started.ensures c.if-not-counts_as_started.false-raw _ c.find_named.ensures _ c.in-Err.is _ c.refused-in-Err.ensures

pub returns-in-Ok : goal.returns-in-Ok
returns-in-Ok c =
    let a = c.args in
    let d = tables a.s a.keys.now a.links.now a.certs.now a.order.now in
    let fk : Fit a.keys.now = λ p. (c.shared_slice_known-1.given p).fits in
    let fl : Fit a.links.now = λ p. (c.shared_slice_known-2-1.given p).fits in
    let fi = id_fit a.id _ c.well_formed.1.1.1.1.1.0 in
    certify-done a.id d fk fl fi _ c.counts_as_started.ensures c.if-not-counts_as_started.false-raw _ c.find_named.ensures _ c.in-Ok.is _ c.certify_at.ensures
