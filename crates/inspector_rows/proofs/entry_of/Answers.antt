use Rattle.inspector_rows.specs.Memory.{entry_by}
use Rattle.inspector_rows.proofs.entry_of.Goals as goal

pub returns : goal.returns
returns c = entry_by _ _ _ _ _ c.four_words-digest.ensures c.one_if-has.ensures c.four_words-signed.ensures
