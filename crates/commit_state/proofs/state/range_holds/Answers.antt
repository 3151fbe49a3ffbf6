use Rattle.commit_state.specs.Numbers.{range_genesis, range_bottom, range_top, range_last}
use Rattle.commit_state.proofs.state.range_holds.Goals as goal

-- src/state.rt:89:9
pub returns-then-b-g : goal.returns-then-b-g
returns-then-b-g c = search range_genesis

-- src/state.rt:92:9
pub returns-then-t-b : goal.returns-then-t-b
returns-then-t-b c = search range_bottom

-- src/state.rt:95:9
pub returns-then-t-gt-ROUND_MAX : goal.returns-then-t-gt-ROUND_MAX
returns-then-t-gt-ROUND_MAX c = search range_top

-- src/state.rt:82:1
pub returns : goal.returns
returns c = search range_last
