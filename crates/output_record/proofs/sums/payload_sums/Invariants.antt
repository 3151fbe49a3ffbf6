use Prim.Native.Nat.{◌+◌}
use Rattle.back_history.specs.Model.{is_uncommitted}
use Rattle.output_record.specs.Sums.{len_at, bytes_at, SumTo}
use Rattle.output_record.proofs.sums.payload_sums.Given as goal

abbrev pub invariant-loop-word : goal.invariant-loop-word
invariant-loop-word l =
    SumTo (len_at l.dag.links.now) l.dag.order.now (is_uncommitted l.dag.certs.now l.marks) l.low (l.low + l.word-index) l.len × SumTo (bytes_at l.dag.links.now) l.dag.order.now (is_uncommitted l.dag.certs.now l.marks) l.low (l.low + l.word-index) l.bytes
