use mathlib.Core.Path.{refl}
use Rattle.commit_answer.specs.Answer.{refusal}
use Rattle.commit_answer.proofs.answer.refused.Goals as goal

-- src/answer.rt:28:1
pub returns : goal.returns
unfolding refusal
returns c = refl
