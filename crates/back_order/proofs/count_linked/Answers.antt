use Rattle.std.proofs.Common.{ℕ, ◌-◌, Bool, false, length, get_or, take, drop, arith, rules, ap, ◌∙◌}
use borrow.Author.Tests.{tests}
use Rattle.std.proofs.iter.Serving.{serving}
use Rattle.std.proofs.lemmas.Iterator.{YieldsList-from_slice}
use Rattle.std.proofs.lemmas.Iterator.Consumers.{YieldsList-from_filter, count_from_yields_List}
use Rattle.back_history.proofs.Cells.{cells_inside, cells_picked}
use Rattle.back_order.specs.Linked.{linked_by}
use Rattle.back_order.proofs.count_linked.Goals as goal

pub count-requires-clause-can : goal.count-requires-clause-can
count-requires-clause-can c =
    let a = c.args in
    let h = cells_inside a.order.now a.low a.high (length a.order.now) c.requires.3 in
    grind serving

pub returns : goal.returns
unfolding linked_by
returns c =
    let a = c.args in
    let test : ℕ → Bool = λ q. get_or a.marks.now q false in
    count_from_yields_List c.filter.result _ c.count.ensures.ran (YieldsList-from_filter _ test (YieldsList-from_slice (take (a.high - a.low) (drop a.low a.order.now)) cc) c.filter.ensures.closure (λ x b q k. search (rules, tests)))
    ∙ ap length (cells_picked a.order.now test a.low (a.high - a.low) (omega arith))
