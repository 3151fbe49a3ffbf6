use Rattle.std.proofs.Common.{◌∙◌, sym, refl}
use Rattle.laws.specs.Test.{and_yes, and_no}
use Rattle.models.specs.Cert.{has_proof}
use Rattle.models.proofs.cert.Cert.has_proof.Goals as goal

pub returns-then-is_certified : goal.returns-then-is_certified
unfolding has_proof
returns-then-is_certified c = sym (and_yes (sym c.is_certified.ensures ∙ c.if-is_certified.true) (sym c.is_top.ensures))

pub returns-else-is_certified : goal.returns-else-is_certified
unfolding has_proof
returns-else-is_certified c = c.if-is_certified.false ∙ sym (and_no _ (sym c.is_certified.ensures ∙ c.if-is_certified.false))
