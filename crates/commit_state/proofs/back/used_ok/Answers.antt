use Rattle.commit_state.specs.Back.{ok_nobody, ok_peer}
use Rattle.commit_state.proofs.back.used_ok.Goals as goal

-- src/back.rt:28:1
pub returns-in-None : goal.returns-in-None
returns-in-None c = search ok_nobody

-- src/back.rt:28:1
pub returns-in-Some : goal.returns-in-Some
returns-in-Some c = search ok_peer
