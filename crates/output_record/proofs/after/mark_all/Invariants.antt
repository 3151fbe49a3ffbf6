use Prim.Native.Nat.{◌+◌}
use mathlib.Core.Path.{◌≡◌}
use lib.ListN.{length}
use Rattle.output_record.specs.Marks.{marks_all}
use Rattle.output_record.proofs.after.mark_all.Given as goal

abbrev pub invariant-loop-word : goal.invariant-loop-word
invariant-loop-word l = (length l.certs ≡ length l.initial.certs) × (l.certs ≡ marks_all l.order l.marks l.low l.initial.certs (l.low + l.word-index))
