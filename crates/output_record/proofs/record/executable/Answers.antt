use mathlib.Core.Path.{refl}
use Rattle.output_record.specs.Model.{executes}
use Rattle.output_record.proofs.record.executable.Goals as goal

pub returns : goal.returns
unfolding executes
returns c = refl
