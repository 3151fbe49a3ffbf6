use Rattle.models.specs.Digest.{words, digest_at}
use Rattle.commit_state.specs.Memory.{is_lower}
use Rattle.commit_state.proofs.state.is_lower.Goals as goal

pub returns : goal.returns
unfolding is_lower digest_at words
returns c = c.digest_less.ensures
