use Rattle.std.proofs.Common.{arith, refl, ◌≡◌, ◌∙◌, ◌+◌, ◌*◌, ℕ, zero, suc, List, Bool, get_or, rules}
use Rattle.std.proofs.Math.Dec.{leb}
use Rattle.std.specs.List.{list_all, range_with_len}
use Rattle.std.proofs.lemmas.Iterator.{YieldsList-from_range}
use Rattle.std.proofs.lemmas.Iterator.Search.{all_from_yields_List}
use borrow.Author.Tests.{tests}
use Rattle.laws.specs.Lists.{all}
use Rattle.models.specs.Digest.{Fit}
use Rattle.models.specs.Info.{refs_of}
use Rattle.trace.specs.Write.{fits_field, link_fields}
use Rattle.trace_write.specs.Fields.{fit_none, fit_more}
use Rattle.trace_write.specs.Ids.{byte_fit, digest_small}
use Rattle.trace_write.proofs.resolve.peers_fit.Goals as goal

-- the peer of link k fits a byte
abbrev fits : List ℕ → ℕ → Bool
fits rs k = leb (get_or rs (k * 5 + 0) 0) 255

-- of n links, from link a on
peers : (rs : List ℕ) (a n : ℕ) → Fit rs → list_all (fits rs) (range_with_len a n) ≡ all fits_field (link_fields (refs_of rs a n))
unfolding link_fields refs_of
peers rs a zero h = fit_none
peers rs a (suc n) h = byte_fit (get_or rs (a * 5 + 0) 0) _ _ (fit_more 32 _ _ _ (digest_small rs (a * 5 + 1) h) (peers rs (a + 1) n h))

pub returns : goal.returns
returns c =
    all_from_yields_List (fits c.args.refs.now) _ _ c.all.result c.all.ensures.ran (YieldsList-from_range 0 c.args.n c.args.n refl (omega arith)) (λ x b q k. search (rules, tests))
    ∙ peers c.args.refs.now 0 c.args.n (λ p. (c.type_inv.refs p).fits)
