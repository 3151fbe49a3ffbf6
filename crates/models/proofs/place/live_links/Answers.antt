use Rattle.models.specs.Live.{reach-nothing, reach-span, span_none, span-includes, span-all}
use borrow.Author.Rules.{rules}
use Rattle.models.proofs.place.live_links.Goals as goal

pub returns-then-r-b : goal.returns-then-r-b
returns-then-r-b c = record { value = reach-span _ _ _ _ c.case_at-case.ensures _ _ _ c.in-Some.is c.round_word-r.ensures (span_none _ _ c.if-r-b.true); upper_bound = search rules }

pub returns-then-r-b-2 : goal.returns-then-r-b-2
returns-then-r-b-2 c = record { value = reach-span _ _ _ _ c.case_at-case.ensures _ _ _ c.in-Some.is c.round_word-r.ensures (span-includes _ _ c.if-r-b.false c.if-r-b-2.true); upper_bound = search rules }

pub returns-in-None : goal.returns-in-None
returns-in-None c = record { value = reach-nothing _ _ _ _ c.case_at-case.ensures c.in-None.is; upper_bound = search rules }

pub returns-else-r-b-2 : goal.returns-else-r-b-2
returns-else-r-b-2 c = record { value = reach-span _ _ _ _ c.case_at-case.ensures _ _ _ c.in-Some.is c.round_word-r.ensures (span-all _ _ c.if-r-b.false c.if-r-b-2.false); upper_bound = search rules }
