use native.Mathlib.Omega.{arith}
use Rattle.cert_certify.specs.ModelCertify.{certifiable_set, certified_by}
use Rattle.cert_certify.proofs.certify_at.Goals as goal

pub with_height-word-requires : goal.with_height-word-requires
with_height-word-requires c = omega (arith, c.top_height-height.ensures, c.requires.0.4)

pub traverse_certify-requires : goal.traverse_certify-requires
traverse_certify-requires c =
    let told = certifiable_set c.args.s.now c.args.keys.now c.args.links.now c.args.certs.now c.args.q _ c.requires in record { keys_len = told.0; placed = told.1 }

pub returns : goal.returns
returns c =
    certified_by c.args.s.now c.args.keys.now c.args.links.now c.args.certs.now _ c.args.q _ _ _ c.set_top-top.ensures c.top_height-height.ensures c.with_height-word.ensures c.traverse_certify.ensures
