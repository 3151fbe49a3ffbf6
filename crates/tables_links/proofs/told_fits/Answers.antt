use Rattle.tables_links.specs.Words.{resolution_given, resolution_named}
use Rattle.tables_links.proofs.told_fits.Goals as goal

pub returns-in-Some : goal.returns-in-Some
returns-in-Some c = resolution_given _ _ _ _ c.case_at-case.ensures _ _ _ _ _ c.in-Some.is c.head_word-e.ensures c.head_word-r.ensures c.head_word-a.ensures c.resolution_in_range.ensures

pub returns-in-None : goal.returns-in-None
returns-in-None c = resolution_named _ _ _ _ c.case_at-case.ensures c.in-None.is
