use mathlib.Core.Path.{refl}
use Rattle.models.specs.Digest.{Fit}
use Rattle.inspector_answer.specs.Answer.{head_length, head_fits, answer-faults, answer_owed, answer-written}
use Rattle.inspector_answer.proofs.emit_answer.Goals as goal

pub emit_head-at-requires : goal.emit_head-at-requires
emit_head-at-requires c = head_fits _ _ _ _ c.requires.low_in_bounds

pub emit_all_faults-faults-requires : goal.emit_all_faults-faults-requires
emit_all_faults-faults-requires c =
    let a = c.args in
    let p = c.requires in
    let fk : Fit a.dag.now.keys.now = a.dag.now.keys_fit in
    let fl : Fit a.dag.now.links.now = a.dag.now.links_fit in
    let q = p.first_value in
    record { order_value = p.order_value; first_value = q; ready = answer-faults a.dag.now.state.now a.dag.now.keys.now a.dag.now.links.now a.dag.now.certs.now a.dag.now.order.now fk fl p.order_value a.low.0 q.1 _ _ (head_length _ _) p.low_in_bounds _ _ c.emit_head-at.ensures _ refl refl }

pub emit_signer_rounds-requires : goal.emit_signer_rounds-requires
emit_signer_rounds-requires c =
    let a = c.args in
    let p = c.requires in
    let fk : Fit a.dag.now.keys.now = a.dag.now.keys_fit in
    let fl : Fit a.dag.now.links.now = a.dag.now.links_fit in
    let q = p.first_value in
    record { order_value = p.order_value; first_value = q; signers_hold = p.signers_hold; ready = answer_owed a.dag.now.state.now a.dag.now.keys.now a.dag.now.links.now a.dag.now.certs.now a.dag.now.order.now fk fl p.order_value a.low.0 q.1 _ _ (head_length _ _) p.low_in_bounds _ _ c.emit_head-at.ensures _ refl refl _ _ c.emit_all_faults-faults.ensures }

pub returns : goal.returns
returns c =
    let a = c.args in
    let p = c.requires in
    let fk : Fit a.dag.now.keys.now = a.dag.now.keys_fit in
    let fl : Fit a.dag.now.links.now = a.dag.now.links_fit in
    let q = p.first_value in
    answer-written a.dag.now.state.now a.dag.now.keys.now a.dag.now.links.now a.dag.now.certs.now a.dag.now.order.now fk fl p.order_value a.low.0 q.1 _ _ (head_length _ _) p.low_in_bounds _ _ c.emit_head-at.ensures _ refl refl _ _ c.emit_all_faults-faults.ensures _ _ c.emit_signer_rounds.ensures
