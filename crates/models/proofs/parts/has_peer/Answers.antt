use mathlib.Core.Path.{refl}
use Rattle.laws.specs.Peers.{member}
use Rattle.models.proofs.parts.has_peer.Goals as goal

-- src/parts.rt:52:1
pub returns : goal.returns
unfolding member
returns c = refl
