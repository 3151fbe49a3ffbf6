use mathlib.Core.Path.{ap, sym}
use Rattle.game.specs.Model.{refusal_of}
use Rattle.game.proofs.Reach.refusal.Goals as goal

-- LEFT enum-told
-- enum_told c = search rules

-- LEFT enum-told-2
-- enum-told-2 c = search rules

-- LEFT enum-told-3
-- enum-told-3 c = search rules

pub returns-in-Forced : goal.returns-in-Forced
unfolding refusal_of
returns-in-Forced c = ap refusal_of (sym c.in-Forced.is)

pub returns-in-Prevented : goal.returns-in-Prevented
unfolding refusal_of
returns-in-Prevented c = ap refusal_of (sym c.in-Prevented.is)

pub returns-in-Refused : goal.returns-in-Refused
unfolding refusal_of
returns-in-Refused c = ap refusal_of (sym c.in-Refused.is)
