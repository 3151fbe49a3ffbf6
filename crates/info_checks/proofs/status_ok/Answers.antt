use Rattle.info_checks.specs.Form.{status_full, status_bare, status-none}
use Rattle.info_checks.proofs.status_ok.Goals as goal

pub returns-then-has_info : goal.returns-then-has_info
returns-then-has_info c = status_full _ _ _ _ _ c.of_status-case.ensures c.in-Some.is c.has_info.ensures c.if-has_info.true

pub returns-else-has_info : goal.returns-else-has_info
returns-else-has_info c = status_bare _ _ _ _ _ c.of_status-case.ensures c.in-Some.is c.has_info.ensures c.if-has_info.false

pub returns-in-None : goal.returns-in-None
returns-in-None c = status-none _ _ _ c.of_status-case.ensures c.in-None.is
