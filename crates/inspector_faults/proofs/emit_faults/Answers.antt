use mathlib.Core.Path.{refl}
use native.Mathlib.Omega.{arith}
use Rattle.inspector_events.specs.Told.{upto_none, upto_more, upto_ready, upto_end}
use Rattle.inspector_faults.specs.Faults.{cell-counts}
use Rattle.inspector_faults.proofs.emit_faults.Goals as goal

pub loop-author-init : goal.loop-author-init
loop-author-init c = upto_none _ _ _ _ _

pub emit_fault-out-requires : goal.emit_fault-out-requires
emit_fault-out-requires c =
    let p = c.requires in
    let l = c.loop-author in
    let h = c.loop-author-test.true in
    record { range = p.range; n_value = cell-counts _ _ _ _ _ _ l.author _ _ h c.round_counts-counts.ensures c.count-n.ensures; ready = upto_ready _ _ _ _ _ l.author _ _ l.invariant _ h p.ready }

pub loop-author-preserved : goal.loop-author-preserved
loop-author-preserved c = upto_more _ _ _ _ _ _ _ _ c.loop-author.invariant _ _ _ _ c.emit_fault-out.ensures refl refl

pub returns : goal.returns
returns c = upto_end _ _ _ _ _ _ _ _ c.loop-author.invariant _ (omega arith)
