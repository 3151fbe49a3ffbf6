use mathlib.Core.Path.{refl, ◌∙◌, ap}
use native.Mathlib.Omega.{arith}
use lib.ListN.{length}
use Rattle.models.specs.Cert.{height_of}
use Rattle.cert_certify.specs.Model.{work, handed, handed-more, handed_end, handed-length, open_at}
use Rattle.cert_certify.proofs.certify_deps.Goals as goal

pub loop-k-init : goal.loop-k-init
unfolding handed
loop-k-init c = refl

pub certify_deeper-end-requires : goal.certify_deeper-end-requires
unfolding height_of
certify_deeper-end-requires c =
    let a = c.args in
    let pre = c.requires in
    let high = c.height-h.ensures in
    let size = ap (λ w. length w.certs) c.loop-k.invariant ∙ (handed-length _ _ _ _).0 in
    record { queue_len = (ap (λ w. length w.queue) c.loop-k.invariant ∙ ((handed-length _ _ _ _).1 ∙ pre.m_bound.3), omega (arith, high), omega arith, omega (arith, size, pre.m_bound.4)); fits = open_at a.links.now (work a.certs.now a.queue.now a.tail) _ a.p _ _ _ _ pre.fact c.loop-k.invariant high c.target-word.ensures c.loop-k-test.true }

pub loop-k-preserved : goal.loop-k-preserved
unfolding height_of
loop-k-preserved c = handed-more _ _ _ _ _ _ _ _ _ c.loop-k.invariant refl c.height-h.ensures c.target-word.ensures c.certify_deeper-end.ensures

pub returns : goal.returns
returns c = handed_end _ _ _ _ _ _ c.loop-k.invariant (omega arith) c.loop-k-test.false
