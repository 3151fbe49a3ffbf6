use mathlib.Core.Path.{◌≡◌}
use Rattle.back_behind.specs.Model.{note_links}
use Rattle.back_behind.proofs.note_links.Given as goal

abbrev pub invariant-loop-k : goal.invariant-loop-k
invariant-loop-k l = l.by ≡ note_links l.keys l.links l.initial.by l.q l.k
