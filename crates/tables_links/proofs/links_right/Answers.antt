use Rattle.std.proofs.Common.{◌≡◌, true, false, refl, arith, rules}
use borrow.Author.Tests.{tests}
use Rattle.std.proofs.lemmas.Iterator.{cases_from_all, YieldsList-from_range}
use Rattle.tables_links.specs.Links.{links_right, link_right}
use Rattle.tables_links.proofs.Ranges.{every_all}
use Rattle.tables_links.proofs.links_right.Goals as goal

pub returns : goal.returns
unfolding links_right
returns c =
    let a = c.args in
    let f = link_right a.keys.now a.links.now a.marks.now a.places a.q in
    every_all f a.m c.all.result
    (cases_from_all _ _ c.all.result (λ k. f k ≡ true) (λ k. f k ≡ false) c.all.ensures.ran (YieldsList-from_range 0 a.m a.m refl (omega arith)) (λ x q k. search (rules, tests)) (λ x q k. search (rules, tests)))
