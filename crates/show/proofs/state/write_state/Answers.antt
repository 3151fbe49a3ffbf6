use Rattle.models.specs.Digest.{Fit}
use Rattle.show.specs.Points.{readable}
use Rattle.show.proofs.state.write_state.Goals as goal

pub write_points-requires : goal.write_points-requires
write_points-requires c =
    let a = c.args in
    let fk : Fit a.keys.now = λ p. (c.shared_slice_known-1.given p).fits in
    let fl : Fit a.links.now = λ p. (c.shared_slice_known-2-1.given p).fits in
    readable a.s a.keys.now a.links.now a.certs.now a.order.now fk fl _ c.counts_as_started.ensures c.if-counts_as_started.true
