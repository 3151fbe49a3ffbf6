use Rattle.std.proofs.Common.{ℕ, ◌-◌, Bool, length, take, drop, arith, rules, ◌∙◌}
use borrow.Author.Tests.{tests}
use Rattle.std.proofs.iter.Serving.{serving}
use Rattle.std.proofs.lemmas.Iterator.{YieldsList-from_slice}
use Rattle.std.proofs.lemmas.Iterator.Consumers.{YieldsList-from_filter, count_from_yields_List}
use Rattle.back_history.specs.Model.{is_uncommitted}
use Rattle.back_history.specs.Supposing.{supposing}
use Rattle.back_history.specs.Picked.{uncommitted_at}
use Rattle.back_history.proofs.Cells.{cells_inside, cells_count}
use Rattle.back_history.proofs.count_points.Goals as goal

pub count-requires-clause-can : goal.count-requires-clause-can
count-requires-clause-can c =
    let a = c.args in
    let h = cells_inside a.dag.now.order.now a.low a.high (length a.dag.now.order.now) c.requires.4 in
    grind serving

pub returns : goal.returns
unfolding uncommitted_at
returns c =
    let a = c.args in
    let test : ℕ → Bool = is_uncommitted (supposing a.taken.now a.dag.now.certs.now) a.marks.now in
    count_from_yields_List c.filter.result _ c.count.ensures.ran (YieldsList-from_filter _ test (YieldsList-from_slice (take (a.high - a.low) (drop a.low a.dag.now.order.now)) cc) c.filter.ensures.closure (λ x b q k. search (rules, tests)))
    ∙ cells_count a.dag.now.order.now test a.low (a.high - a.low) (omega arith)
