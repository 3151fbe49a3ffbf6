use mathlib.Core.Path.{refl}
use Rattle.inspector_rows.specs.Rows.{words_from}
use Rattle.inspector_rows.proofs.four_words.Goals as goal

pub returns : goal.returns
unfolding words_from
returns c = refl
