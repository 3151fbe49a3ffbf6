use Prim.Native.Nat.{◌+◌, ◌*◌}
use mathlib.Core.Path.{◌≡◌}
use Rattle.laws.specs.Bytes.{written}
use Rattle.models.specs.Info.{refs_of}
use Rattle.trace.specs.Write.{field_bytes, link_fields}
use Rattle.trace_write.proofs.resolve.put_links.Given as goal

abbrev pub invariant-loop-k : goal.invariant-loop-k
invariant-loop-k l = (l.b ≡ written l.initial.b l.at (field_bytes (link_fields (refs_of l.refs 0 l.k)))) × (l.next ≡ l.at + l.k * 33)
