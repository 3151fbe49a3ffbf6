use mathlib.Core.Path.{refl}
use Rattle.back_committable.specs.ModelPoints.{committable_of, fault_of, fault_none, fault_by}
use Rattle.back_committable.proofs.ModelPoints.{trans_proved, trans_unproved}
use Rattle.back_committable.proofs.fault.committable_point.Goals as goal

pub returns-then-has_proof : goal.returns-then-has_proof
returns-then-has_proof c = fault_by _ _ _ _ c.look_place-look.ensures _ _ _ c.in-Resolved.is c.in-TransInvalid.is _ c.round_at-round.ensures _ (trans_proved _ _ _ c.has_proof.ensures c.if-has_proof.true)

pub returns-in-Never : goal.returns-in-Never
unfolding fault_of
returns-in-Never c = fault_none _ _ _ _ c.look_place-look.ensures _ c.in-Never.is _ refl

pub returns-in-Named : goal.returns-in-Named
unfolding fault_of
returns-in-Named c = fault_none _ _ _ _ c.look_place-look.ensures _ c.in-Named.is _ refl

pub returns-in-Valid : goal.returns-in-Valid
unfolding committable_of
returns-in-Valid c = fault_by _ _ _ _ c.look_place-look.ensures _ _ _ c.in-Resolved.is c.in-Valid.is _ c.round_at-round.ensures _ refl

pub returns-else-has_proof : goal.returns-else-has_proof
returns-else-has_proof c = fault_by _ _ _ _ c.look_place-look.ensures _ _ _ c.in-Resolved.is c.in-TransInvalid.is _ c.round_at-round.ensures _ (trans_unproved _ _ _ c.has_proof.ensures c.if-has_proof.false)

pub returns-in-Invalid : goal.returns-in-Invalid
unfolding committable_of
returns-in-Invalid c = fault_by _ _ _ _ c.look_place-look.ensures _ _ _ c.in-Resolved.is c.in-Invalid.is _ c.round_at-round.ensures _ c.not_valid.ensures

pub returns-in-IllFormed : goal.returns-in-IllFormed
unfolding committable_of
returns-in-IllFormed c = fault_by _ _ _ _ c.look_place-look.ensures _ _ _ c.in-Resolved.is c.in-IllFormed.is _ c.round_at-round.ensures _ c.not_valid-in-IllFormed.ensures

pub returns-in-NotFound : goal.returns-in-NotFound
unfolding committable_of
returns-in-NotFound c = fault_by _ _ _ _ c.look_place-look.ensures _ _ _ c.in-Resolved.is c.in-NotFound.is _ c.round_at-round.ensures _ c.not_valid-in-NotFound.ensures
