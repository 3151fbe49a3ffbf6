use Rattle.models.specs.Refusal.{number_is, number_13}
use Rattle.models.proofs.refusal.refusal_number.Goals as goal

pub returns-in-Number : goal.returns-in-Number
returns-in-Number c = number_is _ _ c.in-Number.is

pub returns-in-Conflict : goal.returns-in-Conflict
returns-in-Conflict c = number_13 _ _ c.in-Conflict.is
