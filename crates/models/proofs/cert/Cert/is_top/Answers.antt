use mathlib.Core.Path.{refl}
use Rattle.models.specs.Cert.{flags_of}
use Rattle.models.proofs.cert.Cert.is_top.Goals as goal

pub returns : goal.returns
unfolding flags_of
returns c = refl
