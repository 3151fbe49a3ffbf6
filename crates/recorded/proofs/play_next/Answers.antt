use mathlib.Core.Path.{sym}
use lib.Seq.{length-take-le}
use borrow.Author.Rules.{rules}
use Rattle.recorded.proofs.play_next.Goals as goal

pub slice_bounds-play_run-end-in-Run : goal.slice_bounds-play_run-end-in-Run
slice_bounds-play_run-end-in-Run c = sym (length-take-le _ _ c.read_run-found.ensures)
