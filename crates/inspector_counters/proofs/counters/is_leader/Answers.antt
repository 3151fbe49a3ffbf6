use Rattle.std.proofs.Common.{arith}
use Rattle.inspector_counters.specs.Counters.{leads}
use Rattle.std.proofs.lemmas.Grind.{common_steps}
use Rattle.inspector_counters.proofs.counters.is_leader.Goals as goal

pub returns : goal.returns
unfolding leads
returns c = grind (arith, common_steps)
