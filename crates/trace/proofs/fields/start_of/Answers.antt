use Rattle.trace.specs.Fields.{start_is}
use Rattle.trace.proofs.fields.start_of.Goals as goal

pub returns : goal.returns
returns c = start_is _ _ _ _ _ _ _ _ _ c.number_of-genesis.ensures c.number_of-commit_history_rounds.ensures c.number_of-deduplicate_rounds.ensures c.number_of-bottom.ensures c.number_of-peers.ensures c.byte_of-gap.ensures.0 c.byte_of.ensures.0 c.used_of-used.ensures
