use Rattle.commit_start.specs.Start.{kept_phase, kept_used, kept_broken, kept_all}
use Rattle.commit_start.proofs.kept_memory.Goals as goal

pub returns-then-s-ne2 : goal.returns-then-s-ne2
returns-then-s-ne2 c = kept_phase _ _ c.empty_memory.ensures c.if-s-ne2.true

pub returns-then-s-ne0 : goal.returns-then-s-ne0
returns-then-s-ne0 c = kept_used _ _ c.empty_memory-then-s-ne0.ensures c.if-s-ne2.false c.if-s-ne0.true

pub returns-then-not-memory_holds : goal.returns-then-not-memory_holds
returns-then-not-memory_holds c = kept_broken _ _ c.empty_memory-then-not-memory_holds.ensures c.if-s-ne2.false c.if-s-ne0.false _ c.memory_holds.ensures c.if-not-memory_holds.true-raw

pub returns : goal.returns
returns c = kept_all _ c.if-s-ne2.false c.if-s-ne0.false _ c.memory_holds.ensures c.if-not-memory_holds.false-raw
