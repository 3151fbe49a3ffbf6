use Prim.Native.Nat.{ℕ}
use mathlib.Core.Option.{Option}
use Rattle.spec.specs.Calls as calls
use Rattle.committer.specs.Writes.{puts_with}
use borrow.Author.Rules.{rules}
use Rattle.committer.proofs.records.committer_write_remove.Goals as goal

pub returns : goal.returns
returns c = λ room. puts_with (λ (u : Option ℕ). calls.remove c.args.round u room) _ _ c.since_in-stats_since.ensures _ _ _ _ (c.put_remove.ensures room)
