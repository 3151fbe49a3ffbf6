use Rattle.inspector_rows.specs.Must.{unreferenced_none, unreferenced_some}
use borrow.Author.Rules.{rules}
use Rattle.inspector_rows.proofs.unreferenced_by.Goals as goal

pub returns-then-previous-eq0 : goal.returns-then-previous-eq0
returns-then-previous-eq0 c = unreferenced_none _ _ _ _ _ _ c.if-previous-eq0.true

pub referring-by-requires : goal.referring-by-requires
referring-by-requires c = let p = c.requires in record { n_in_bounds = (p.n_in_bounds.0, search rules, (search rules, p.n_in_bounds.2)); by_index = p.by_index }

pub returns : goal.returns
returns c = unreferenced_some _ _ _ _ _ _ _ _ c.if-previous-eq0.false c.referring-by.ensures c.without.ensures
