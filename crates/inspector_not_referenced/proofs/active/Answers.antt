use mathlib.Core.Path.{refl}
use borrow.Author.Rules.{rules}
use Rattle.inspector_not_referenced.specs.Signers.{active_not, active_by}
use Rattle.inspector_not_referenced.proofs.active.Goals as goal

pub returns-then-not-adjacent : goal.returns-then-not-adjacent
returns-then-not-adjacent c = active_not _ _ _ _ _ _ (search rules)

pub row_authors-then-requires : goal.row_authors-then-requires
row_authors-then-requires c = let p = c.requires in record { n_in_bounds = p.m_in_bounds.1; by_index = p.by_index_2 }

pub place_authors-now-requires : goal.place_authors-now-requires
place_authors-now-requires c = let p = c.requires in record { m_in_bounds = p.m_in_bounds.0; by_index = p.by_index }

pub returns : goal.returns
returns c = active_by _ _ _ _ _ _ _ _ _ (search rules) c.row_authors-then.ensures c.place_authors-now.ensures refl
