use Rattle.models.specs.Digest.{Fit}
use Rattle.dag_round_points.specs.Words.{id_fit}
use Rattle.info_store.specs.Ranged.{info_ranged}
use Rattle.commit_answer.specs.Answer.{tables}
use Rattle.commit_points.specs.Name.{name_ready}
use Rattle.commit_points.specs.Resolve.{resolve-unstarted, resolve_unnamed, resolve_there, resolve-refused, resolve_ready, resolve-done}
use Rattle.commit_points.proofs.resolve.resolve.Goals as goal

pub returns-then-not-counts_as_started : goal.returns-then-not-counts_as_started
returns-then-not-counts_as_started c =
    let a = c.args in
    let d = tables a.s a.keys.now a.links.now a.certs.now a.order.now in
    let fk : Fit a.keys.now = λ p. (c.slice_known-1.given p).fits in
    let fl : Fit a.links.now = λ p. (c.slice_known-2-1.given p).fits in
    let range = info_ranged a.info _ c.well_formed.1.1.1.1.1.1.0 in
    let fi = id_fit a.id _ c.well_formed.1.1.1.1.1.0 in
    let fr : Fit a.refs.now = λ p. (c.shared_slice_known-2-1.given p).fits in
    resolve-unstarted a.id a.info a.refs.now d fk fl range fi fr _ c.counts_as_started.ensures c.if-not-counts_as_started.true-raw _ c.refused.ensures

pub find_named-requires : goal.find_named-requires
find_named-requires c =
    let a = c.args in
    let d = tables a.s a.keys.now a.links.now a.certs.now a.order.now in
    let fk : Fit a.keys.now = λ p. (c.slice_known-1.given p).fits in
    let fl : Fit a.links.now = λ p. (c.slice_known-2-1.given p).fits in
    name_ready d fk fl _ c.counts_as_started.ensures c.if-not-counts_as_started.false-raw

pub check_resolution-check-requires : goal.check_resolution-check-requires
check_resolution-check-requires c =
    let a = c.args in
    let d = tables a.s a.keys.now a.links.now a.certs.now a.order.now in
    let fk : Fit a.keys.now = λ p. (c.slice_known-1.given p).fits in
    let fl : Fit a.links.now = λ p. (c.slice_known-2-1.given p).fits in
    let range = info_ranged a.info _ c.well_formed.1.1.1.1.1.1.0 in
    let fi = id_fit a.id _ c.well_formed.1.1.1.1.1.0 in
    let fr : Fit a.refs.now = λ p. (c.shared_slice_known-2-1.given p).fits in
    let told = resolve_there a.id a.info a.refs.now d fk fl range fi fr _ c.counts_as_started.ensures c.if-not-counts_as_started.false-raw _ c.find_named.ensures _ c.in-Ok.is in record { ready = told.0; q_in_bounds = told.1 }

pub returns-in-Err-check : goal.returns-in-Err-check
returns-in-Err-check c =
    let a = c.args in
    let d = tables a.s a.keys.now a.links.now a.certs.now a.order.now in
    let fk : Fit a.keys.now = λ p. (c.slice_known-1.given p).fits in
    let fl : Fit a.links.now = λ p. (c.slice_known-2-1.given p).fits in
    let range = info_ranged a.info _ c.well_formed.1.1.1.1.1.1.0 in
    let fi = id_fit a.id _ c.well_formed.1.1.1.1.1.0 in
    let fr : Fit a.refs.now = λ p. (c.shared_slice_known-2-1.given p).fits in
    resolve-refused a.id a.info a.refs.now d fk fl range fi fr _ c.counts_as_started.ensures c.if-not-counts_as_started.false-raw _ c.find_named.ensures _ c.in-Ok.is _ c.check_resolution-check.ensures _ c.in-Err-check.is _ c.refused-in-Err-check.ensures

pub resolve_at-requires : goal.resolve_at-requires
resolve_at-requires c =
    let a = c.args in
    let d = tables a.s a.keys.now a.links.now a.certs.now a.order.now in
    let fk : Fit a.keys.now = λ p. (c.slice_known-1.given p).fits in
    let fl : Fit a.links.now = λ p. (c.slice_known-2-1.given p).fits in
    let range = info_ranged a.info _ c.well_formed.1.1.1.1.1.1.0 in
    let fi = id_fit a.id _ c.well_formed.1.1.1.1.1.0 in
    let fr : Fit a.refs.now = λ p. (c.shared_slice_known-2-1.given p).fits in
    let told = resolve_ready a.id a.info a.refs.now d fk fl range fi fr _ c.counts_as_started.ensures c.if-not-counts_as_started.false-raw _ c.find_named.ensures _ c.in-Ok.is _ c.check_resolution-check.ensures c.in_default.is in record { resolvable = told.0; q_value = told.1 }

pub returns-in-Err : goal.returns-in-Err
returns-in-Err c =
    let a = c.args in
    let d = tables a.s a.keys.now a.links.now a.certs.now a.order.now in
    let fk : Fit a.keys.now = λ p. (c.slice_known-1.given p).fits in
    let fl : Fit a.links.now = λ p. (c.slice_known-2-1.given p).fits in
    let range = info_ranged a.info _ c.well_formed.1.1.1.1.1.1.0 in
    let fi = id_fit a.id _ c.well_formed.1.1.1.1.1.0 in
    let fr : Fit a.refs.now = λ p. (c.shared_slice_known-2-1.given p).fits in
    resolve_unnamed a.id a.info a.refs.now d fk fl range fi fr _ c.counts_as_started.ensures c.if-not-counts_as_started.false-raw _ c.find_named.ensures _ c.in-Err.is _ c.refused-in-Err.ensures

pub returns-in_default : goal.returns-in_default
returns-in_default c =
    let a = c.args in
    let d = tables a.s a.keys.now a.links.now a.certs.now a.order.now in
    let fk : Fit a.keys.now = λ p. (c.slice_known-1.given p).fits in
    let fl : Fit a.links.now = λ p. (c.slice_known-2-1.given p).fits in
    let range = info_ranged a.info _ c.well_formed.1.1.1.1.1.1.0 in
    let fi = id_fit a.id _ c.well_formed.1.1.1.1.1.0 in
    let fr : Fit a.refs.now = λ p. (c.shared_slice_known-2-1.given p).fits in
    let k = c.resolve_at.ensures in
    resolve-done a.id a.info a.refs.now d fk fl range fi fr _ c.counts_as_started.ensures c.if-not-counts_as_started.false-raw _ c.find_named.ensures _ c.in-Ok.is _ c.check_resolution-check.ensures c.in_default.is _ _ _ k.keys k.links k.certs (λ p. (c.slice_known-in-Ok-1.given p).fits) (λ p. (c.slice_known-in-Ok-2-1.given p).fits)
