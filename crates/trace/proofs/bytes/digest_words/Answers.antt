use borrow.Author.Rules.{rules}
use Rattle.trace.specs.Numbers.{digest_words}
use Rattle.trace.proofs.bytes.digest_words.Goals as goal

pub returns : goal.returns
unfolding digest_words
returns c = search rules
