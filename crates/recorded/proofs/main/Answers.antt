use mathlib.Core.Path.{sym, ◌∙◌}
use Rattle.recorded.proofs.main.Goals as goal

pub loop-number-init : goal.loop-number-init
loop-number-init c = c.large_buffer-input.ensures

pub slice_bounds-play_next-end : goal.slice_bounds-play_next-end
slice_bounds-play_next-end c = c.loop-number.invariant

pub loop-number-preserved : goal.loop-number-preserved
loop-number-preserved c = c.loop-number.invariant ∙ sym c.play_next.auto.input
