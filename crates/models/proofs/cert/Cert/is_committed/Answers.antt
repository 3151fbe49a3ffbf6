use mathlib.Core.Path.{refl}
use Rattle.models.specs.Cert.{flags_of}
use Rattle.models.proofs.cert.Cert.is_committed.Goals as goal

-- src/cert.rt:22:5
pub returns : goal.returns
unfolding flags_of
returns c = refl
