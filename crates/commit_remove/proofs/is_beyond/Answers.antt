use Rattle.commit_remove.specs.Remove.{beyond-none, beyond-some}
use Rattle.commit_remove.proofs.is_beyond.Goals as goal

pub returns-then-word-eq0 : goal.returns-then-word-eq0
returns-then-word-eq0 c = search beyond-none

pub returns : goal.returns
returns c = search beyond-some
