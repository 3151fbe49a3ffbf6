use mathlib.Core.Path.{◌≡◌}
use Rattle.laws.specs.Bytes.{written}
use Rattle.trace.specs.Links.{links_words}
use Rattle.trace.proofs.fields.refs_of.Given as goal

abbrev pub invariant-loop-k : goal.invariant-loop-k
invariant-loop-k l = l.refs ≡ written l.initial.refs 0 (links_words l.f l.k)
