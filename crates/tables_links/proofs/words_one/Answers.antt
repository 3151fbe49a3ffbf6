use Rattle.tables_links.specs.Words.{words_by}
use Rattle.tables_links.proofs.words_one.Goals as goal

pub returns : goal.returns
returns c = words_by _ _ _ _ _ _ _ _ _ _ c.status-s.ensures c.marks_at-m.ensures c.author-a.ensures c.point_in_range.ensures c.told_fits.ensures c.and.ensures
