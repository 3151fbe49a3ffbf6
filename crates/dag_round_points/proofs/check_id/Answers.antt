use mathlib.Core.Path.{ap, sym, ◌∙◌}
use mathlib.Core.Bool.{Bool, cond}
use Rattle.models.specs.Refusal.{numbered}
use Rattle.commit_state.specs.View.{record_of}
use Rattle.dag_round_points.specs.Model.{code_author, code_below, code_above, code_peer}
use Rattle.dag_round_points.proofs.check_id.Goals as goal

pub returns-then-author-ge-PEER_SLOTS : goal.returns-then-author-ge-PEER_SLOTS
unfolding numbered
returns-then-author-ge-PEER_SLOTS c = let a = c.args in ap numbered (code_author a.s.now a.id c.if-author-ge-PEER_SLOTS.true)

pub returns-then-r-bottom : goal.returns-then-r-bottom
unfolding numbered
returns-then-r-bottom c = let a = c.args in ap numbered (code_below a.s.now a.id c.if-author-ge-PEER_SLOTS.false c.if-r-bottom.true)

pub returns-then-top-r : goal.returns-then-top-r
unfolding numbered
returns-then-top-r c = let a = c.args in ap numbered (code_above a.s.now a.id c.if-author-ge-PEER_SLOTS.false c.if-r-bottom.false c.if-top-r.true)

pub returns-then-not-has_peer : goal.returns-then-not-has_peer
unfolding record_of numbered
returns-then-not-has_peer c =
    let a = c.args in
    ap numbered (ap (λ (b : Bool). cond b 5 0) (sym c.if-not-has_peer.true-raw) ∙ code_peer a.s.now a.id c.if-author-ge-PEER_SLOTS.false c.if-r-bottom.false c.if-top-r.false _ c.has_peer.ensures)

pub returns : goal.returns
unfolding record_of numbered
returns c =
    let a = c.args in
    ap numbered (ap (λ (b : Bool). cond b 5 0) (sym c.if-not-has_peer.false-raw) ∙ code_peer a.s.now a.id c.if-author-ge-PEER_SLOTS.false c.if-r-bottom.false c.if-top-r.false _ c.has_peer.ensures)
