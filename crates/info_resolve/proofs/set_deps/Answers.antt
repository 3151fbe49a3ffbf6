use Rattle.info_resolve.specs.Refines.{deps_nothing, deps_none, deps_set_lem}
use Rattle.info_resolve.proofs.set_deps.Goals as goal

pub returns-then-has_info : goal.returns-then-has_info
returns-then-has_info c = deps_set_lem _ _ _ _ c.requires.2 c.of_status-case.ensures _ _ c.in-Some.is c.has_info.ensures _ c.if-has_info.true c.set_deps-set.ensures

pub returns-else-has_info : goal.returns-else-has_info
returns-else-has_info c = deps_none _ _ _ _ c.requires.2 c.of_status-case.ensures _ _ c.in-Some.is c.has_info.ensures c.if-has_info.false

pub returns-in-None : goal.returns-in-None
returns-in-None c = deps_nothing _ _ _ _ c.requires.2 c.of_status-case.ensures c.in-None.is
