use mathlib.Core.Path.{◌∙◌}
use Rattle.back_walk.specs.Refines.{enqueued_of}
use Rattle.commit_dequeue.specs.Model.{state_by}
use Rattle.commit_dequeue.proofs.one.next_state.Goals as goal

pub returns : goal.returns
returns c =
    let a = c.args in
    c.after_anchor.ensures ∙ state_by a.s a.keys.now (enqueued_of a.e) _ _ _ c.round_at-ar.ensures c.round_at-pr.ensures c.author-author.ensures
