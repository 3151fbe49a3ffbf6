use Rattle.trace.specs.Numbers.{id_is}
use Rattle.trace.proofs.bytes.id_of.Goals as goal

pub returns : goal.returns
returns c = id_is _ _ _ _ _ c.number_of-round.ensures c.byte_of-author.ensures.0 c.digest_words-digest.ensures
