use Rattle.std.proofs.Common.{◌-◌, ◌≡◌, ◌≢◌, refl, rules}
use borrow.Author.Tests.{tests}
use Rattle.std.proofs.lemmas.Iterator.{cases_from_all, YieldsList-from_range}
use Rattle.models.specs.Tables.{target_at}
use Rattle.tables_links.specs.Bare.{empty_from}
use Rattle.tables_links.proofs.Ranges.{empty_all}
use Rattle.tables_links.proofs.empty_from.Goals as goal

pub returns : goal.returns
unfolding empty_from
returns c =
    let a = c.args in
    empty_all a.links.now a.q a.m c.all.result c.requires.1
    (cases_from_all _ _ c.all.result (λ k. target_at a.links.now a.q k ≡ 0) (λ k. target_at a.links.now a.q k ≢ 0) c.all.ensures.ran (YieldsList-from_range a.m 64 (64 - a.m) refl refl) (λ x q k. search (rules, tests)) (λ x q k. search (rules, tests)))
