use Prim.Native.Nat.{◌≤◌}
use lib.ListN.{length}
use Rattle.show.proofs.removal.write_peers.Given as goal

abbrev pub invariant-loop : goal.invariant-loop
invariant-loop l = l.at ≤ length l.b
