use Rattle.lines.specs.Said.{rounds-started, rounds-none}
use Rattle.lines.proofs.end.rounds_of.Goals as goal

pub returns-then-counts_as_started : goal.returns-then-counts_as_started
returns-then-counts_as_started c = rounds-started _ _ _ _ _ _ c.counts_as_started.ensures c.if-counts_as_started.true

pub returns : goal.returns
returns c = rounds-none _ _ _ _ _ _ c.counts_as_started.ensures c.if-counts_as_started.false
