use Rattle.inspector_not_referenced.specs.Excluded.{excluded_empty, excluded-none, excluded-some}
use borrow.Author.Rules.{rules}
use Rattle.inspector_not_referenced.proofs.exclude_witness.Goals as goal

pub returns-then-peers-eq0 : goal.returns-then-peers-eq0
returns-then-peers-eq0 c = excluded_empty _ _ _ _ _ _ _ _ c.if-peers-eq0.true

pub returns-then-previous-eq0 : goal.returns-then-previous-eq0
returns-then-previous-eq0 c = excluded-none _ _ _ _ _ _ _ _ c.if-peers-eq0.false c.if-previous-eq0.true

pub referring-seen-requires : goal.referring-seen-requires
referring-seen-requires c =
    let p = c.requires in
    record { n_in_bounds = (p.m_in_bounds.0, search rules, (search rules, p.m_in_bounds.3)); by_index = p.by_index }

pub returns : goal.returns
returns c =
    excluded-some _ _ _ _ _ _ _ _ c.if-peers-eq0.false _ _ _ _ c.if-previous-eq0.false
    c.referring-seen.ensures c.owed_later-later.ensures c.without.ensures c.without-2.ensures
