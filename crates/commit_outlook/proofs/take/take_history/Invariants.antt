use Prim.Native.Nat.{◌+◌}
use mathlib.Core.Path.{◌≡◌}
use lib.ListN.{length}
use Rattle.back_history.specs.Supposing.{supposing}
use Rattle.output_record.specs.Marks.{marks_all}
use Rattle.commit_outlook.proofs.take.take_history.Given as goal

abbrev pub invariant-loop-word : goal.invariant-loop-word
invariant-loop-word l = (length l.taken ≡ 4096) × (supposing l.taken l.certs ≡ marks_all l.order l.marks l.low (supposing l.initial.taken l.certs) (l.low + l.word-index))
