use mathlib.Core.Path.{◌≡◌}
use Rattle.back_history.specs.Model.{marked}
use Rattle.back_history.proofs.mark_links.Given as goal

abbrev pub invariant-loop-k : goal.invariant-loop-k
invariant-loop-k l = l.marks ≡ marked l.links l.initial.marks l.q l.k
