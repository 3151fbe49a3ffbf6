use Rattle.committer.specs.Writes.{resolve_with}
use borrow.Author.Rules.{rules}
use Rattle.committer.proofs.records.committer_write_resolve.Goals as goal

pub returns : goal.returns
returns c = resolve_with _ _ c.info_in-info.ensures _ _ _ _ _ _ c.put_resolve.ensures
