use borrow.Author.Rules.{rules}
use mathlib.Core.Path.{refl, ◌∙◌, ap}
use Rattle.back_chain.specs.declared.Chain.{Chain}
use native.Mathlib.Omega.{arith}
use lib.ListN.{length, length-set}
use Rattle.back_walk.specs.Model.{topped, found_used}
use Rattle.back_chain.specs.Chain.{chain_more}
use Rattle.back_chain.specs.RefinesWalk.{walked-pass, walked_end, walked-bad, walked-found, walked_none, walked_start}
use Rattle.std.proofs.lemmas.Result.{err_from_is_err_and}
use Rattle.std.specs.Prelude.{Ok}
use Rattle.back_chain.proofs.anchor_chain.Goals as goal

pub loop-k-init : goal.loop-k-init
loop-k-init c = (search rules, ap (λ (z : Chain). length z.list) c.no_anchors-empty.ensures, walked_start _ _ _ _ _ _ _ _ _)

pub visit-requires : goal.visit-requires
visit-requires c = record { walkable = c.requires.walkable; linked = c.requires.linked }

pub loop-k-preserved-in-Pass : goal.loop-k-preserved-in-Pass
loop-k-preserved-in-Pass c =
    let l = c.loop-k in
    (omega arith, l.invariant.1, walked-pass _ _ _ _ _ _ _ _ _ _ (omega arith) _ c.plus-x.ensures _ c.visit.ensures (c.in_ok-visit.was ∙ ap Ok c.in-Pass.is) ∙ l.invariant.2)

pub returns-in-End : goal.returns-in-End
returns-in-End c = record { result_value = walked_end _ _ _ _ _ _ _ _ _ _ (omega arith) _ c.plus-x.ensures _ c.visit.ensures (c.in_ok-visit.was ∙ ap Ok c.in-End.is) _ refl ∙ c.loop-k.invariant.2; count_bound = omega arith }

pub returns-in_err-visit : goal.returns-in_err-visit
returns-in_err-visit c =
    let p = err_from_is_err_and c.from_residual.result c.from_residual.ensures.1 in
    rw (p.1, p.2) (record { result_value = walked-bad _ _ _ _ _ _ _ _ _ _ (omega arith) _ c.plus-x.ensures _ c.visit.ensures _ c.in_err-visit.was ∙ c.loop-k.invariant.2; count_bound = tt })

pub bounds-list-count : goal.bounds-list-count
bounds-list-count c = let i = c.loop-k.invariant.0 in let t = c.loop-k-test.true in let p = c.requires.span_bound.0 in search rules

pub top_proof-sought-requires : goal.top_proof-sought-requires
top_proof-sought-requires c =
    let a = c.args in
    topped a.dag.now.state.now a.dag.now.keys.now a.dag.now.links.now a.dag.now.certs.now a.dag.now.order.now _ c.requires.walkable c.requires.linked (found_used _ _ _ _ _ _ _ _ _ _ c.visit.ensures (c.in_ok-visit.was ∙ ap Ok c.in-Anchor.is))

pub loop-k-preserved : goal.loop-k-preserved
loop-k-preserved c =
    let l = c.loop-k in
    (omega arith, simp length-set l.invariant.1, walked-found _ _ _ _ _ _ _ _ _ _ (omega arith) _ c.plus-x.ensures _ c.visit.ensures _ (c.in_ok-visit.was ∙ ap Ok c.in-Anchor.is) _ _ c.top_proof-sought.ensures (chain_more _ _ _ (omega (arith, c.loop-k.invariant.0, c.loop-k.invariant.1, c.loop-k-test.true, c.requires.span_bound.0))) ∙ l.invariant.2)

pub returns : goal.returns
returns c = record { result_value = walked_none _ _ _ _ _ _ _ _ _ (omega arith) _ refl ∙ c.loop-k.invariant.2; count_bound = omega arith }
