use Rattle.play_calls.specs.Room.{zeros}
use borrow.Author.Rules.{rules}
use Rattle.play_calls.proofs.room.clear.Goals as goal

pub returns : goal.returns
unfolding zeros
returns c = search rules
