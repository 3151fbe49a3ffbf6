use Rattle.commit_remove.specs.Remove.{bottom_is}
use Rattle.commit_remove.proofs.remove_bottom.Goals as goal

pub returns : goal.returns
returns c = search bottom_is
