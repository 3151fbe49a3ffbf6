use mathlib.Core.Path.{refl}
use Rattle.info_store.specs.Model.{head_words}
use Rattle.info_store.proofs.head_words.Goals as goal

pub returns : goal.returns
unfolding head_words
returns c = refl
