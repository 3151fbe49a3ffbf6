use Rattle.std.proofs.Common.{refl, ◌≡◌, ◌<◌, ◌∙◌, get_or, arith}
use Rattle.std.proofs.lemmas.List.{get_or-take, length-take-le}
use Rattle.models.specs.Cert.{height_of}
use Rattle.tables_heights.specs.Model.{pushed_all, all_more}
use Rattle.tables_heights.proofs.push_all.Goals as goal

pub loop-cell-init : goal.loop-cell-init
unfolding pushed_all
loop-cell-init c = refl

pub loop-cell-preserved : goal.loop-cell-preserved
unfolding height_of
loop-cell-preserved c =
    let a = c.args in
    let i = c.loop-cell.cell-index in
    let k : i < a.n = omega (arith, length-take-le a.n a.order.now (omega arith)) in
    let s : c.slot-q.result ≡ get_or a.order.now i 0 = c.slot-q.ensures ∙ get_or-take a.n a.order.now i 0 k in
    all_more _ _ _ _ _ _ _ _ _ _ _ _ c.loop-cell.invariant s c.live_links.ensures.value c.push_one.ensures
