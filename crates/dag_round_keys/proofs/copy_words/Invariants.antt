use Rattle.std.proofs.Common.{◌≡◌}
use Rattle.dag_round_keys.specs.Fill.{copied}
use Rattle.dag_round_keys.proofs.copy_words.Given as goal

abbrev pub invariant-loop-i : goal.invariant-loop-i
invariant-loop-i l = l.t ≡ copied l.initial.t l.at l.words l.from l.i
