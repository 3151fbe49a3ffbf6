use Rattle.spec.specs.Calls as calls
use Rattle.models.specs.Info.{info_of}
use Rattle.models.specs.Parts.{id_of}
use Rattle.models.specs.declared.info.PointInfo.{PointInfo}
use Rattle.commit_points.specs.Resolve.{resolve_left}
use Rattle.committer.specs.Replies.{replies_with}
use borrow.Author.Rules.{rules}
use Rattle.committer.proofs.points.committer_resolve.Goals as goal

pub returns : goal.returns
returns c =
    let a = c.args in
    replies_with (λ (u : PointInfo). calls.resolve (id_of a.id) (info_of u a.refs.now)) (λ (u : PointInfo). resolve_left a.id u a.refs.now) _ _ c.info_in-info.ensures _ _ _ _ _ _ _ _ c.reply_of.ensures c.resolve-o.ensures
