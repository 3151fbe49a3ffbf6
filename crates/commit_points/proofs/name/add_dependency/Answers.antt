use Rattle.models.specs.Digest.{Fit}
use Rattle.dag_round_points.specs.Words.{id_fit}
use Rattle.commit_answer.specs.Answer.{tables}
use Rattle.commit_points.specs.Name.{name_ready, name-unstarted, name-refused, name_free, name_done}
use Rattle.commit_points.proofs.name.add_dependency.Goals as goal

pub returns-then-not-counts_as_started : goal.returns-then-not-counts_as_started
returns-then-not-counts_as_started c =
    let a = c.args in
    let d = tables a.s a.keys.now a.links.now a.certs.now a.order.now in
    let fk : Fit a.keys.now = λ p. (c.slice_known-1.given p).fits in
    let fl : Fit a.links.now = λ p. (c.shared_slice_known-1.given p).fits in
    let fi = id_fit a.id _ c.well_formed.1.1.1.1.1.0 in
    name-unstarted a.id d fk fl fi _ c.counts_as_started.ensures c.if-not-counts_as_started.true-raw _ c.refused.ensures

pub check_name-requires : goal.check_name-requires
check_name-requires c =
    let a = c.args in
    let d = tables a.s a.keys.now a.links.now a.certs.now a.order.now in
    let fk : Fit a.keys.now = λ p. (c.slice_known-1.given p).fits in
    let fl : Fit a.links.now = λ p. (c.shared_slice_known-1.given p).fits in
    name_ready d fk fl _ c.counts_as_started.ensures c.if-not-counts_as_started.false-raw

pub name_point-next-requires : goal.name_point-next-requires
name_point-next-requires c =
    let a = c.args in
    let d = tables a.s a.keys.now a.links.now a.certs.now a.order.now in
    let fk : Fit a.keys.now = λ p. (c.slice_known-1.given p).fits in
    let fl : Fit a.links.now = λ p. (c.shared_slice_known-1.given p).fits in
    let fi = id_fit a.id _ c.well_formed.1.1.1.1.1.0 in
    let told = name_free a.id d fk fl fi _ c.counts_as_started.ensures c.if-not-counts_as_started.false-raw _ c.check_name.ensures _ c.in-Ok.is in record { ready = told.0; certs_len = told.1 }

pub returns-in-Err : goal.returns-in-Err
returns-in-Err c =
    let a = c.args in
    let d = tables a.s a.keys.now a.links.now a.certs.now a.order.now in
    let fk : Fit a.keys.now = λ p. (c.slice_known-1.given p).fits in
    let fl : Fit a.links.now = λ p. (c.shared_slice_known-1.given p).fits in
    let fi = id_fit a.id _ c.well_formed.1.1.1.1.1.0 in
    name-refused a.id d fk fl fi _ c.counts_as_started.ensures c.if-not-counts_as_started.false-raw _ c.check_name.ensures _ c.in-Err.is _ c.refused-in-Err.ensures

pub returns-in-Ok : goal.returns-in-Ok
returns-in-Ok c =
    let a = c.args in
    let d = tables a.s a.keys.now a.links.now a.certs.now a.order.now in
    let fk : Fit a.keys.now = λ p. (c.slice_known-1.given p).fits in
    let fl : Fit a.links.now = λ p. (c.shared_slice_known-1.given p).fits in
    let fi = id_fit a.id _ c.well_formed.1.1.1.1.1.0 in
    let k = c.name_point-next.ensures in
    name_done a.id d fk fl fi _ c.counts_as_started.ensures c.if-not-counts_as_started.false-raw _ c.check_name.ensures _ c.in-Ok.is _ _ _ _ k.state k.keys k.certs k.order
