use Prim.Native.Nat.{◌-◌}
use mathlib.Core.Path.{◌≡◌}
use lib.ListN.{length}
use Rattle.back_order.specs.Linked.{linked_by}
use Rattle.output_record.specs.Model.{Wrote}
use Rattle.output_record.specs.Listed.{last_by}
use Rattle.output_record.proofs.record.put_round.Given as goal

abbrev pub invariant-loop-i : goal.invariant-loop-i
invariant-loop-i l = (length l.b ≡ length l.initial.b) × Wrote l.keys l.by l.ids l.told l.initial.b l.k (last_by l.certs (linked_by l.order l.marks l.low (l.high - l.low)) l.lists l.from l.n (l.n - l.i)) l.b l.end
