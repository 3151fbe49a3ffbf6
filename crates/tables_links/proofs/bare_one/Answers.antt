use Rattle.tables_links.specs.Bare.{bare_full, bare_none, bare_named}
use Rattle.tables_links.proofs.bare_one.Goals as goal

pub returns-then-has_info : goal.returns-then-has_info
returns-then-has_info c = bare_full _ _ _ _ c.case_at-case.ensures _ _ _ _ c.in-Some.is c.has_info.ensures c.if-has_info.true c.live_links.ensures.value c.empty_from.ensures

pub returns-else-has_info : goal.returns-else-has_info
returns-else-has_info c = bare_none _ _ _ _ c.case_at-case.ensures _ _ _ _ _ c.in-Some.is c.has_info.ensures c.if-has_info.false c.head_word.ensures c.empty_from-in-Some.ensures c.and.ensures

pub returns-in-None : goal.returns-in-None
returns-in-None c = bare_named _ _ _ _ c.case_at-case.ensures c.in-None.is
