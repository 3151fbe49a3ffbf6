use Rattle.spec.specs.Calls as calls
use Rattle.commit_state.specs.declared.back.StartArgs.{StartArgs}
use Rattle.commit_state.specs.Reads.{start_args_of}
use Rattle.committer.specs.Writes.{puts_with}
use borrow.Author.Rules.{rules}
use Rattle.committer.proofs.records.committer_write_start.Goals as goal

pub returns : goal.returns
returns c = puts_with (λ (u : StartArgs). calls.start (start_args_of u)) _ _ c.start_args_in-beginning.ensures _ _ _ _ c.put_start.ensures
