use mathlib.Core.Path.{refl}
use Rattle.models.specs.Cert.{with_height}
use Rattle.models.proofs.cert.Cert.with_height.Goals as goal

-- src/cert.rt:35:5
pub returns : goal.returns
unfolding with_height
returns c = refl
