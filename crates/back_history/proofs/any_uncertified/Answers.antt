use Rattle.std.proofs.Common.{ℕ, ◌-◌, ◌+◌, Bool, not, length, take, drop, get_or, arith, rules, refl, ap, ◌∙◌}
use Rattle.std.specs.Prelude.{◌&&◌, ltb}
use borrow.Author.Tests.{tests}
use Rattle.std.proofs.iter.Serving.{serving}
use Rattle.std.proofs.lemmas.Iterator.{YieldsList-from_slice}
use Rattle.std.proofs.lemmas.Iterator.Search.{any_from_yields_List}
use Rattle.laws.specs.Scan.{any_same}
use Rattle.models.specs.Cert.{height_of}
use Rattle.models.specs.Tables.{place_at}
use Rattle.back_history.specs.Model.{is_uncommitted}
use Rattle.back_history.specs.Supposing.{supposing, certified_by}
use Rattle.back_history.specs.Picked.{uncertified_at}
use Rattle.back_history.proofs.Cells.{cells_inside, cells_any}
use Rattle.back_history.proofs.any_uncertified.Goals as goal

pub any-requires-clause-callable : goal.any-requires-clause-callable
any-requires-clause-callable c =
    let a = c.args in
    let h = cells_inside a.dag.now.order.now a.low a.high (length a.dag.now.order.now) c.requires.4 in
    grind serving

pub returns : goal.returns
unfolding uncertified_at
returns c =
    let a = c.args in
    let cs = supposing a.taken.now a.dag.now.certs.now in
    let test : ℕ → Bool = λ q. is_uncommitted cs a.marks.now q && not (ltb 0 (height_of (get_or a.dag.now.certs.now q 0))) in
    any_from_yields_List test _ _ _ c.any.ensures.ran (YieldsList-from_slice (take (a.high - a.low) (drop a.low a.dag.now.order.now)) cc) (λ x b q k. search (rules, tests))
    ∙ (cells_any a.dag.now.order.now test a.low (a.high - a.low) (omega arith)
    ∙ any_same (a.high - a.low) _ _ (λ i l. let h = c.requires.4 (a.low + i) (omega arith) in ap (λ z. is_uncommitted cs a.marks.now (place_at a.dag.now.order.now (a.low + i)) && not z) (certified_by _ _ _ (omega (arith, h)) _ refl)))
