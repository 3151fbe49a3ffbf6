use mathlib.Core.Path.{◌≡◌, subst}
use mathlib.Core.Bool.{true}
use Rattle.spec.specs.Rules.{well_formed}
use Rattle.models.specs.Info.{info_of}
use Rattle.info_checks.specs.Form.{formed}
use borrow.Author.Rules.{rules}
use Rattle.info_resolve.specs.Refines.{placed_by, settled_by}
use Rattle.info_resolve.proofs.resolve_at.Goals as goal

pub store_info-requires : goal.store_info-requires
store_info-requires c =
    record { ready = c.requires.resolvable.0.0; links_len = (c.requires.resolvable.0.1, c.requires.resolvable.0.3); q_value = (c.requires.q_value, subst (λ r. well_formed r (info_of c.args.info c.args.refs.now) ≡ true) c.requires.q_value c.requires.resolvable.1) }

pub set_deps-requires : goal.set_deps-requires
set_deps-requires c =
    let f = formed c.args.info c.args.refs.now _ c.requires.resolvable.1 in
    search (rules, f.status)

pub traverse_certify-requires : goal.traverse_certify-requires
traverse_certify-requires c =
    let a = c.args in
    let told = placed_by a.s.now a.keys.now a.links.now a.certs.now a.order.now a.q a.info a.refs.now _ _ _ c.store_info.ensures.keys c.store_info.ensures.links c.set_deps.ensures c.requires.resolvable in record { keys_len = told.0; placed = told.1 }

pub returns : goal.returns
returns c =
    let a = c.args in
    record { keys = c.store_info.ensures.keys; links = c.store_info.ensures.links; certs = settled_by a.s.now a.keys.now a.links.now a.certs.now a.order.now a.q a.info a.refs.now _ _ _ _ c.store_info.ensures.keys c.store_info.ensures.links c.set_deps.ensures c.traverse_certify.ensures }
