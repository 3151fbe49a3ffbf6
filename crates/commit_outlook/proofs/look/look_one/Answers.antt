use mathlib.Core.Path.{◌∙◌}
use Rattle.models.specs.Digest.{Fit}
use Rattle.models.specs.Refusal.{not_failed}
use Rattle.back_history.specs.Supposing.{supposing}
use Rattle.back_committable.specs.Model.{anchor-words}
use Rattle.commit_outlook.specs.Look.{look-round, look-tested, look_full, look-pass, tested-size, tested_range, tested_took}
use Rattle.commit_outlook.proofs.look.look_one.Goals as goal

pub test_supposed-t-requires : goal.test_supposed-t-requires
test_supposed-t-requires c = let p = c.requires in record { started = p.started; used = p.used.0 }

pub round_at-round-requires : goal.round_at-round-requires
round_at-round-requires c =
    let a = c.args in
    let p = c.requires in
    anchor-words a.dag.now.state.now a.dag.now.keys.now a.dag.now.links.now a.dag.now.certs.now a.dag.now.order.now p.started a.e.anchor p.used.0

pub look_size-size-requires : goal.look_size-size-requires
look_size-size-requires c =
    let a = c.args in
    let p = c.requires in
    look-round a.dag.now.state.now a.dag.now.keys.now a.dag.now.links.now a.dag.now.certs.now a.dag.now.order.now p.started a.e.anchor p.used.0 c.round_at-round.result.0 c.round_at-round.ensures

pub returns-in-Err : goal.returns-in-Err
returns-in-Err c =
    let a = c.args in
    let t = c.test_supposed-t in
    let size = c.look_size-size.ensures ∙ tested-size a.dag.now.state.now a.dag.now.keys.now a.dag.now.links.now (supposing a.taken.now a.dag.now.certs.now) a.dag.now.order.now a.e.anchor t.result t.ensures c.round_at-round.result.0 c.round_at-round.ensures in
    record { outcome = look-tested a.dag.now.state.now a.dag.now.keys.now a.dag.now.links.now (supposing a.taken.now a.dag.now.certs.now) a.dag.now.order.now a.e.anchor t.result t.ensures a.left _ _ size _ c.in-Err.is; bytes = size; took = λ z. absurd (not_failed _ z) }

pub returns-then-left-size : goal.returns-then-left-size
returns-then-left-size c =
    let a = c.args in
    let t = c.test_supposed-t in
    let size = c.look_size-size.ensures ∙ tested-size a.dag.now.state.now a.dag.now.keys.now a.dag.now.links.now (supposing a.taken.now a.dag.now.certs.now) a.dag.now.order.now a.e.anchor t.result t.ensures c.round_at-round.result.0 c.round_at-round.ensures in
    record { outcome = look_full a.dag.now.state.now a.dag.now.keys.now a.dag.now.links.now (supposing a.taken.now a.dag.now.certs.now) a.dag.now.order.now a.e.anchor t.result t.ensures a.left _ _ size c.in_default.is c.if-left-size.true; bytes = size; took = λ z. absurd (not_failed _ z) }

pub take_history-requires : goal.take_history-requires
take_history-requires c =
    let a = c.args in
    let p = c.requires in
    let fk : Fit a.dag.now.keys.now = a.dag.now.keys_fit in
    let fl : Fit a.dag.now.links.now = a.dag.now.links_fit in
    let t = c.test_supposed-t in
    record { range = tested_range a.dag.now.state.now a.dag.now.keys.now a.dag.now.links.now (supposing a.taken.now a.dag.now.certs.now) a.dag.now.order.now a.e.anchor t.result t.ensures a.dag.now.certs.now fk fl p.started p.used.0; taken_len = p.used.1 }

pub returns : goal.returns
returns c =
    let a = c.args in
    let t = c.test_supposed-t in
    let size = c.look_size-size.ensures ∙ tested-size a.dag.now.state.now a.dag.now.keys.now a.dag.now.links.now (supposing a.taken.now a.dag.now.certs.now) a.dag.now.order.now a.e.anchor t.result t.ensures c.round_at-round.result.0 c.round_at-round.ensures in
    record { outcome = look-pass a.dag.now.state.now a.dag.now.keys.now a.dag.now.links.now (supposing a.taken.now a.dag.now.certs.now) a.dag.now.order.now a.e.anchor t.result t.ensures a.left _ _ size c.in_default.is c.if-left-size.false; bytes = size; took = λ z. tested_took a.dag.now.state.now a.dag.now.keys.now a.dag.now.links.now (supposing a.taken.now a.dag.now.certs.now) a.dag.now.order.now a.e.anchor t.result t.ensures a.dag.now.certs.now a.taken.now _ (c.take_history.ensures.words, c.take_history.ensures.places) }
