use Rattle.std.proofs.Common.{◌<◌, ◌≡◌, ◌∙◌, true, false, sym, length, get_or, below_more, arith, rules}
use Rattle.std.proofs.lemmas.List.{get_or-take, length-take-le}
use Rattle.laws.specs.Scan.{every_intro, every_not}
use Rattle.commit_state.specs.View.{record_of}
use Rattle.tables_test.specs.Model.{each_ok, ok_by}
use Rattle.tables_test.proofs.each_ok.Goals as goal

pub returns-then-not-place_ok : goal.returns-then-not-place_ok
unfolding each_ok record_of
returns-then-not-place_ok c =
    let a = c.args in
    let i = c.loop-cell.cell-index in
    let k : i < a.dag.now.state.now.count = omega (arith, length-take-le a.dag.now.state.now.count a.dag.now.order.now c.requires.order_in_bounds.4) in
    let e : c.slot-q.result ≡ get_or a.dag.now.order.now i 0 = c.slot-q.ensures ∙ get_or-take a.dag.now.state.now.count a.dag.now.order.now i 0 k in
    let no : c.place_ok.result ≡ false = search rules in
    sym (every_not _ _ i k (sym (ok_by a.dag.now.state.now a.dag.now.keys.now a.dag.now.links.now a.dag.now.certs.now a.dag.now.order.now a.marks.now (length a.dag.now.order.now) i _ _ _ e c.round_word-round.ensures c.place_ok.ensures) ∙ no))

pub loop-cell-preserved : goal.loop-cell-preserved
unfolding record_of
loop-cell-preserved c =
    let a = c.args in
    let i = c.loop-cell.cell-index in
    let k : i < a.dag.now.state.now.count = omega (arith, length-take-le a.dag.now.state.now.count a.dag.now.order.now c.requires.order_in_bounds.4) in
    let e : c.slot-q.result ≡ get_or a.dag.now.order.now i 0 = c.slot-q.ensures ∙ get_or-take a.dag.now.state.now.count a.dag.now.order.now i 0 k in
    let yes : c.place_ok.result ≡ true = search rules in
    below_more _ _ c.loop-cell.invariant (sym (ok_by a.dag.now.state.now a.dag.now.keys.now a.dag.now.links.now a.dag.now.certs.now a.dag.now.order.now a.marks.now (length a.dag.now.order.now) i _ _ _ e c.round_word-round.ensures c.place_ok.ensures) ∙ yes)

pub returns : goal.returns
unfolding each_ok
returns c = sym (every_intro _ _ (λ k l. c.loop-cell.invariant k (omega (arith, length-take-le c.args.dag.now.state.now.count c.args.dag.now.order.now c.requires.order_in_bounds.4))))
