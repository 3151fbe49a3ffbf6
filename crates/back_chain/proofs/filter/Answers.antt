use mathlib.Core.Path.{refl}
use Rattle.back_chain.specs.Model.{trigger_of, trigger_by, trigger_case, trans_proved, trans_flat, trans_certified}
use Rattle.back_chain.proofs.filter.Goals as goal

pub returns-then-has_proof : goal.returns-then-has_proof
returns-then-has_proof c = trigger_case _ _ _ _ _ c.look_place-look.ensures _ _ _ c.in-Resolved.is c.in-TransInvalid.is _ (trans_proved _ _ _ _ c.has_proof.ensures c.if-has_proof.true)

pub returns-then-not-is_certified : goal.returns-then-not-is_certified
returns-then-not-is_certified c = trigger_case _ _ _ _ _ c.look_place-look.ensures _ _ _ c.in-Resolved.is c.in-TransInvalid.is _ (trans_flat _ _ _ _ c.has_proof.ensures c.if-has_proof.false _ c.is_certified.ensures c.if-not-is_certified.true-raw)

pub returns-in-Never : goal.returns-in-Never
unfolding trigger_of
returns-in-Never c = trigger_by _ _ _ _ _ c.look_place-look.ensures _ c.in-Never.is _ refl

pub returns-in-Named : goal.returns-in-Named
unfolding trigger_of
returns-in-Named c = trigger_by _ _ _ _ _ c.look_place-look.ensures _ c.in-Named.is _ refl

pub returns-in-Valid : goal.returns-in-Valid
unfolding trigger_of
returns-in-Valid c = trigger_case _ _ _ _ _ c.look_place-look.ensures _ _ _ c.in-Resolved.is c.in-Valid.is _ refl

pub returns-else-not-is_certified : goal.returns-else-not-is_certified
returns-else-not-is_certified c = trigger_case _ _ _ _ _ c.look_place-look.ensures _ _ _ c.in-Resolved.is c.in-TransInvalid.is _ (trans_certified _ _ _ _ c.has_proof.ensures c.if-has_proof.false _ c.is_certified.ensures c.if-not-is_certified.false-raw)

pub returns-in-Invalid : goal.returns-in-Invalid
unfolding trigger_of
returns-in-Invalid c = trigger_case _ _ _ _ _ c.look_place-look.ensures _ _ _ c.in-Resolved.is c.in-Invalid.is _ c.not_valid.ensures

pub returns-in-IllFormed : goal.returns-in-IllFormed
unfolding trigger_of
returns-in-IllFormed c = trigger_case _ _ _ _ _ c.look_place-look.ensures _ _ _ c.in-Resolved.is c.in-IllFormed.is _ c.not_valid-in-IllFormed.ensures

pub returns-in-NotFound : goal.returns-in-NotFound
unfolding trigger_of
returns-in-NotFound c = trigger_case _ _ _ _ _ c.look_place-look.ensures _ _ _ c.in-Resolved.is c.in-NotFound.is _ c.not_valid-in-NotFound.ensures
