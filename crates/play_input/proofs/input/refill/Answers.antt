use Rattle.play_input.specs.Fed.{refilled}
use Rattle.std.proofs.Common.{rules}
use Rattle.play_input.proofs.input.refill.Goals as goal

pub returns : goal.returns
returns c = refilled c.args.input.now c.read_full-got.new.buf _ _ c.requires c.read_full-got.ensures.0 c.read_full-got.auto.buf
