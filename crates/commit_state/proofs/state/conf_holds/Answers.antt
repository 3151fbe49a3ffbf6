use Rattle.commit_state.specs.Numbers.{conf-none, conf_above, conf_last}
use Rattle.commit_state.proofs.state.conf_holds.Goals as goal

-- src/state.rt:73:9
pub returns-then-history-eq0 : goal.returns-then-history-eq0
returns-then-history-eq0 c = search conf-none

-- src/state.rt:76:9
pub returns-then-history-gt-HISTORY_MAX : goal.returns-then-history-gt-HISTORY_MAX
returns-then-history-gt-HISTORY_MAX c = search conf_above

-- src/state.rt:69:1
pub returns : goal.returns
returns c = search conf_last
