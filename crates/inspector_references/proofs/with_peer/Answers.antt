use Prim.Native.Nat.{ℕ}
use mathlib.Core.Path.{ap}
use native.Mathlib.Omega.{arith}
use lib.Bits.{bit_or}
use Rattle.laws.specs.Peers.{with_peer}
use Rattle.inspector_references.specs.Sets.{one_shifted}
use Rattle.inspector_references.proofs.with_peer.Goals as goal

pub returns : goal.returns
unfolding with_peer
returns c = ap (λ (x : ℕ). bit_or c.args.peers x) (one_shifted 64 c.args.peer (omega (arith, c.requires)))
