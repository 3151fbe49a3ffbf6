use borrow.Author.Rules.{part_to_end}
use Rattle.trace.specs.Kinds as kind
use Rattle.play_calls.specs.Calls.{lent_made, commit_made}
use Rattle.play_calls.proofs.points.play_commit.Goals as goal

pub returns : goal.returns
returns c =
    let f = c.args.f.now in
    lent_made _ _ kind.Commit _ _ _ c.clear.ensures (commit_made _ _ _ _ _ c.id_of-id.ensures _ (part_to_end f 37) c.commit.ensures)
