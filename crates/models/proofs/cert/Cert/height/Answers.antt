use mathlib.Core.Path.{refl}
use Rattle.models.specs.Cert.{height_of}
use Rattle.models.proofs.cert.Cert.height.Goals as goal

-- src/cert.rt:16:5
pub returns : goal.returns
unfolding height_of
returns c = refl
