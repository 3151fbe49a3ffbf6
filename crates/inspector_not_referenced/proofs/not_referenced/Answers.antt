use mathlib.Core.Path.{refl}
use native.Mathlib.Omega.{arith}
use Rattle.inspector_not_referenced.specs.Signers.{cells_none, cells_more, cells_end, cell_by}
use borrow.Author.Rules.{rules}
use Rattle.inspector_not_referenced.proofs.not_referenced.Goals as goal

pub active-both-requires : goal.active-both-requires
active-both-requires c = let p = c.requires in record { m_in_bounds = (p.m_in_bounds.0, p.m_in_bounds.2); by_index = (λ j l. ((p.by_index j l).0, (p.by_index j l).2)); by_index_2 = p.by_index_2 }

pub loop-k-init : goal.loop-k-init
loop-k-init c = cells_none _

pub exclude_witness-requires : goal.exclude_witness-requires
exclude_witness-requires c =
    let p = c.requires in
    record { m_in_bounds = (p.m_in_bounds.0, search rules, p.m_in_bounds.2, p.by_index_2 _ c.loop-k-test.true); by_index = p.by_index }

pub loop-k-preserved : goal.loop-k-preserved
loop-k-preserved c =
    let l = c.loop-k in
    cells_more _ l.k l.signers l.sets _ _ _ l.invariant (omega arith) (cell_by _ _ _ _ _ _ _ _ _ _ _ c.exclude_witness.ensures c.active-both.ensures) refl refl

pub returns : goal.returns
returns c = let l = c.loop-k in cells_end _ l.k _ _ _ l.invariant (search rules) c.loop-k-test.false
