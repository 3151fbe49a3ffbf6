use Rattle.std.proofs.Common.{◌∙◌, arith}
use Rattle.std.specs.Prelude.{eqb}
use Rattle.back_behind.specs.Model.{goes_none, goes_some}
use Rattle.back_behind.proofs.goes_before.Goals as goal

pub returns-in-None : goal.returns-in-None
returns-in-None c = goes_none _ _ _ (omega (arith, c.in-None.ensures))

pub returns-in-Some : goal.returns-in-Some
returns-in-Some c = (λ i. eqb (c.round_word.ensures i) (c.round_word-in-Some.ensures i)) ∙ goes_some _ _ _ _ (λ e. omega (arith, e, c.in-Some.ensures.0)) c.in-Some.ensures.1
