use Prim.Native.Nat.{ℕ}
use mathlib.Core.Option.{Option}
use Rattle.spec.specs.Calls as calls
use Rattle.commit_remove.specs.Remove.{remove_left}
use Rattle.committer.specs.Replies.{replies_with}
use borrow.Author.Rules.{rules}
use Rattle.committer.proofs.commit.committer_remove.Goals as goal

pub returns : goal.returns
returns c =
    let a = c.args in
    replies_with (λ (u : Option ℕ). calls.remove a.round u a.b.now) (λ (u : Option ℕ). remove_left u a.round a.b.now) _ _ c.since_in-stats_since.ensures _ _ _ _ _ _ _ _ c.reply_of.ensures c.remove_committed-o.ensures
