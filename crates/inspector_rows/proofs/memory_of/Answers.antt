use mathlib.Core.Path.{refl}
use Rattle.inspector_rows.specs.Memory.{entries_none, entries-more, memory_by}
use borrow.Author.Rules.{rules}
use Rattle.inspector_rows.proofs.memory_of.Goals as goal

pub loop-k-init : goal.loop-k-init
loop-k-init c = entries_none _ _ c.empty_memory-empty.ensures

pub entry_of-requires : goal.entry_of-requires
entry_of-requires c = let h = c.requires.rows_fit _ c.loop-k-test.true in (search rules, h.0, h.1)

pub loop-k-preserved : goal.loop-k-preserved
loop-k-preserved c =
    let l = c.loop-k in
    entries-more _ l.k l.entries _ _ l.invariant c.entry_of.ensures refl

pub returns : goal.returns
returns c = let l = c.loop-k in memory_by _ _ l.k _ _ l.invariant (search rules) c.loop-k-test.false
