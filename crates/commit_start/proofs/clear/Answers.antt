use Rattle.commit_start.specs.Blank.{blank}
use Rattle.commit_start.proofs.clear.Goals as goal

pub returns : goal.returns
unfolding blank
returns c = record { keys = c.zero_words.ensures; links = c.zero_words-2.ensures; certs = c.zero_words-3.ensures; order = c.zero_words-4.ensures }
