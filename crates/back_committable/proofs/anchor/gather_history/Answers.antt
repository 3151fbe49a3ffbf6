use Rattle.models.specs.Digest.{Fit}
use Rattle.back_history.specs.Supposing.{supposing}
use Rattle.back_committable.specs.Model.{gathered_by, anchor-words, span_asked, span_range, span_ready}
use Rattle.back_committable.proofs.anchor.gather_history.Goals as goal

pub round_at-round-requires : goal.round_at-round-requires
round_at-round-requires c =
    let a = c.args in
    anchor-words a.dag.now.state.now a.dag.now.keys.now a.dag.now.links.now a.dag.now.certs.now a.dag.now.order.now c.requires.started a.anchor c.requires.used

pub span_of-span-requires : goal.span_of-span-requires
span_of-span-requires c =
    let a = c.args in
    let told = span_asked a.dag.now.state.now a.dag.now.keys.now a.dag.now.links.now a.dag.now.certs.now a.dag.now.order.now c.requires.started a.anchor c.requires.used c.round_at-round.result.0 c.round_at-round.ensures in record { ready = told.0; genesis_bound = told.1 }

pub gather_uncommitted-marks-requires : goal.gather_uncommitted-marks-requires
gather_uncommitted-marks-requires c =
    let a = c.args in
    let fk : Fit a.dag.now.keys.now = a.dag.now.keys_fit in
    let fl : Fit a.dag.now.links.now = a.dag.now.links_fit in
    let told = span_ready a.dag.now.state.now a.dag.now.keys.now a.dag.now.links.now a.dag.now.certs.now a.dag.now.order.now c.requires.started a.anchor c.requires.used fk fl c.round_at-round.result.0 c.span_of-span.result c.round_at-round.ensures c.span_of-span.ensures in record { range = told.0; keys_len = told.1 }

pub count_points-count-requires : goal.count_points-count-requires
count_points-count-requires c =
    let a = c.args in
    let fk : Fit a.dag.now.keys.now = a.dag.now.keys_fit in
    let fl : Fit a.dag.now.links.now = a.dag.now.links_fit in
    span_range a.dag.now.state.now a.dag.now.keys.now a.dag.now.links.now a.dag.now.certs.now a.dag.now.order.now c.requires.started a.anchor c.requires.used fk fl c.round_at-round.result.0 c.span_of-span.result c.round_at-round.ensures c.span_of-span.ensures

pub returns : goal.returns
returns c =
    let a = c.args in
    gathered_by a.dag.now.state.now a.dag.now.keys.now a.dag.now.links.now (supposing a.taken.now a.dag.now.certs.now) a.dag.now.order.now a.anchor c.round_at-round.result.0 c.span_of-span.result _ _ c.round_at-round.ensures c.span_of-span.ensures c.gather_uncommitted-marks.ensures c.count_points-count.ensures
